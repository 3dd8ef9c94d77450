pub mod Owners
pub mod SeenJournals
pub mod Hands
pub mod Passes
pub mod Turns
