pub mod Ending
pub mod Playing
pub mod Settling
