pub mod Begun
pub mod Listed
pub mod Goings
pub mod Answered
pub mod Closing
