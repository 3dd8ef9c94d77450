pub mod Step
pub mod Places
pub mod Rows
pub mod Header
pub mod File
pub mod Layout
pub mod Frames
pub mod Trees
