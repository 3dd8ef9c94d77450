pub mod Views
pub mod LookUp
pub mod Files
pub mod Laws
