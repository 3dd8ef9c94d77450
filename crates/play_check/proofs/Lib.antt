pub mod Stepping
pub mod Lasting
pub mod Telling
