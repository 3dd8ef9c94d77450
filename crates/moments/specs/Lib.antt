pub mod Cutoffs
pub mod Clocks
