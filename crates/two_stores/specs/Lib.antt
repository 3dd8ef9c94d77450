pub mod Sides
pub mod Pairs
