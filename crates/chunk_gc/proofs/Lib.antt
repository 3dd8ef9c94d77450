pub mod Stepping
pub mod Answering
pub mod Sets
pub mod Marking
mod Once
pub mod Sweeping
pub mod Going
pub mod Playing
pub mod Journals
pub mod Acting
pub mod Vanishing
