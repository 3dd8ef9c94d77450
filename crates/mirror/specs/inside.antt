pub mod Registers
pub mod Working
