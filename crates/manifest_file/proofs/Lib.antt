pub mod Behind
pub mod Again
pub mod Ordered
pub mod Sized
pub mod WrittenBytes
