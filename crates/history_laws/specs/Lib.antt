pub mod Refs
pub mod Collections
pub mod Laws
