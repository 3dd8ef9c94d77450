pub mod Stepping
pub mod Plays
