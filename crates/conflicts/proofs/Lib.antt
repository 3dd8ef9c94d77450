pub mod Members
pub mod Facts
pub mod Exactness
pub mod Rising
pub mod Halving
pub mod Steps
pub mod LawProofs
