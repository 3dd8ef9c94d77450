pub mod Each
pub mod Ids
pub mod Again
pub mod Ordered
pub mod Orders
pub mod WrittenBytes
