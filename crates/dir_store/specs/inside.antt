pub mod Flushing
pub mod Telling
