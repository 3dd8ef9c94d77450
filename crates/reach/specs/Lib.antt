pub mod Chains
pub mod Holding
pub mod Own
