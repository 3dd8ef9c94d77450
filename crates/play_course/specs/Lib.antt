pub mod Course
pub mod Leaving
pub mod Refusing
pub mod Lines
pub mod Ways
pub mod Promise
pub mod Law
