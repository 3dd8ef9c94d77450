pub mod Versions
pub mod Whole
pub mod Places
pub mod Changes
