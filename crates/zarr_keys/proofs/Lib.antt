pub mod Keying
pub mod ReadBack
