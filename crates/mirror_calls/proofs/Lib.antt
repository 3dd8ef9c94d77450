pub mod Later
pub mod Causes
pub mod Files
pub mod Going
pub mod Beside
pub mod Polite
pub mod Leading
pub mod Same
