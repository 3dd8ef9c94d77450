pub mod Placing
pub mod StandingLemmas
pub mod Changing
pub mod Told
pub mod Indexed
pub mod Shelved
pub mod Times
pub mod Calls
