pub mod Working
pub mod Collecting
