pub mod Journal
pub mod Callers
pub mod Program
pub mod Laws
pub mod Plays
pub mod Driving
pub mod Running
pub mod Telling
