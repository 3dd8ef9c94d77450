pub mod Reading
pub mod Apart
pub mod Listed
pub mod Found
pub mod Asides
pub mod Located
