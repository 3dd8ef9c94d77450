pub mod Numbers
pub mod Boxes
pub mod Sides
pub mod Rows
pub mod Parts
pub mod Walks
pub mod Laws
