pub mod Answering
pub mod Leaving
pub mod Flushing
pub mod Noting
pub mod HoldsMore
pub mod Leftovers
pub mod FaultPaths
