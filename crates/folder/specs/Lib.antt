pub mod Files
pub mod Memory
pub mod System
pub mod Told
