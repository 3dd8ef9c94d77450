pub mod Quiet
pub mod Alike
pub mod Kept
pub mod Walking
pub mod Logs
pub mod Moving
pub mod Saying
pub mod OwnedOn
pub mod Lawful
pub mod Unhidden
pub mod Following
pub mod Meaning
pub mod Only
pub mod OwnCommits
pub mod OverNothing
pub mod Owned
pub mod Made
pub mod AsPut
mod Keeping
mod Solved
mod Rebases
