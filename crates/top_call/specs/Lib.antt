pub mod Statuses
pub mod Telling
pub mod Run
pub mod Check
pub mod inside
pub mod Promise
pub mod Exact
pub mod GoesOn
