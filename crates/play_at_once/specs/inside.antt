pub mod Stepping
pub mod Forking
