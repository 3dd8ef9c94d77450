pub mod Settling
pub mod Telling
pub mod Laws
pub mod inside
