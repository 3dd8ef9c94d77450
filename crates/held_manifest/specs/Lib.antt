pub mod Places
pub mod Views
pub mod LookUp
pub mod Files
pub mod Objects
pub mod Laws
