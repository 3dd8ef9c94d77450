pub mod Texts
pub mod Running
pub mod Ending
pub mod inside
