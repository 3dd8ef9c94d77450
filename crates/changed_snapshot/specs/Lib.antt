pub mod inside
pub mod Rows
pub mod Laws
pub mod Written
