pub mod Working
pub mod Telling
