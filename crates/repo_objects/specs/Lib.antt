pub mod Readings
pub mod Trees
pub mod Lines
pub mod Loading
pub mod Laws
pub mod inside
