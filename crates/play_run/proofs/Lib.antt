pub mod Places
pub mod Turning
pub mod Paths
pub mod Rounds
