pub mod Beginning
pub mod Refs
pub mod Reading
pub mod Closing
