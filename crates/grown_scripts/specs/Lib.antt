pub mod Law
pub mod Boxes
