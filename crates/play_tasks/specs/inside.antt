pub mod Working
pub mod Phases
pub mod Sessions
pub mod Releasing
