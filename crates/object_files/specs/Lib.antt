pub mod Paths
pub mod Versions
pub mod Listings
pub mod Contents
pub mod inside
