pub mod Whole
pub mod Beside
pub mod Told
pub mod Laws
