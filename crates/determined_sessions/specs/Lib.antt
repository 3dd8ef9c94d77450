pub mod Commits
pub mod Sessions
pub mod Trees
