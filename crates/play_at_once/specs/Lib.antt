pub mod Running
pub mod inside
