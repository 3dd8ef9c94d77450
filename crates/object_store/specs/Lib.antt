pub mod Names
pub mod Machine
pub mod Orders
pub mod Journals
pub mod Callers
