pub mod inside
pub mod Found
pub mod Order
pub mod Solving
pub mod Laws
