pub mod Plays
pub mod Following
pub mod Resting
pub mod Starting
pub mod Telling
pub mod Laws
pub mod inside
