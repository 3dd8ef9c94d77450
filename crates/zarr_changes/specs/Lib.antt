pub mod inside
pub mod Rows
pub mod Codes
pub mod Edits
pub mod Sets
pub mod Placing
pub mod Laws
