pub mod Cells
pub mod Planning
pub mod Reading
pub mod Getting
pub mod Writing
pub mod Setting
pub mod Filling
