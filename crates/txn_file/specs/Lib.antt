pub mod Logs
pub mod Layout
pub mod Laws
