pub mod Looking
pub mod Registers
pub mod Taking
pub mod Expiring
