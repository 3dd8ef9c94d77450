pub mod Parts
pub mod NoMemory
pub mod Agreeing
pub mod Listed
