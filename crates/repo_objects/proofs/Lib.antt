pub mod Steps
pub mod Refs
pub mod Metas
pub mod Rows
pub mod Entering
pub mod Again
