pub mod Slots
pub mod Journals
pub mod Ties
pub mod Waits
