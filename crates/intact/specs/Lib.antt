pub mod Rows
pub mod Parts
pub mod Told
pub mod Visits
pub mod Intact
pub mod Places
pub mod inside
