pub mod Checking
pub mod inside
