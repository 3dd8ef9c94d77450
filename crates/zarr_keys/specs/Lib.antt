pub mod Keys
pub mod Calls
pub mod Laws
pub mod inside
