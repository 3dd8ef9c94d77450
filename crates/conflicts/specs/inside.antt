pub mod Codes
pub mod Looking
