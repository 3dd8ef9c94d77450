pub mod Adding
pub mod Playing
