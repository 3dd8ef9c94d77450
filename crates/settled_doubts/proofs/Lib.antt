pub mod Puts
pub mod Kept
pub mod Branches
pub mod Ways
pub mod Doubts
