pub mod Acting
pub mod Replying
pub mod Polite
pub mod Leading
pub mod Kept
pub mod Confirming
pub mod Lawful
pub mod Following
