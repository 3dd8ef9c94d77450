pub mod Sources
pub mod Runs
pub mod Told
pub mod Beside
pub mod Keeping
pub mod Laws
