pub mod Lengths
pub mod Refusing
pub mod Putting
pub mod Entering
pub mod Listing
pub mod Conflicting
