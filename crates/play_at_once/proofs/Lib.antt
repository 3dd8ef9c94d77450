pub mod Steps
pub mod Joining
pub mod Porting
pub mod Whole
