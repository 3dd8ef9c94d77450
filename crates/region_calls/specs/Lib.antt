pub mod Told
pub mod Written
pub mod Laws
pub mod ChunkTold
pub mod ChunkLaws
