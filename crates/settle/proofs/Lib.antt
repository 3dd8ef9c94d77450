pub mod Steps
pub mod Reading
pub mod Ways
pub mod Kept
pub mod Lawful
