mod Rows
mod Scripts
mod Lasts
mod Checking
pub mod Endings
pub mod Tellings
pub mod Readings
pub mod Commands
mod Promises
pub mod Apart
