pub mod Props
pub mod Reads
pub mod Working
