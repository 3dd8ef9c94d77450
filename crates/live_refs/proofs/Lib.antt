pub mod Listed
pub mod Live
