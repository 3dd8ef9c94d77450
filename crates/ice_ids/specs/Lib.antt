pub mod Digits
pub mod Text
pub mod Drawing
pub mod Sources
pub mod Sets
