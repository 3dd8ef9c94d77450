pub mod Places
pub mod Reading
pub mod Well
pub mod Collections
pub mod SoFar
