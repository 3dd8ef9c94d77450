pub mod Works
pub mod Plays
pub mod Findings
pub mod Exact
pub mod Laws
pub mod Resting
pub mod inside
