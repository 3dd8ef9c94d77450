pub mod Ends
pub mod ByteEnds
pub mod Lists
pub mod Names
