pub mod Merging
pub mod Extents
pub mod Laws
pub mod inside
