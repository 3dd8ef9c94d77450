pub mod Parents
pub mod Holding
pub mod Own
