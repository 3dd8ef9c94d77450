pub mod Playing
pub mod Telling
pub mod Workers
pub mod Laws
