pub mod Parsers
pub mod Words
pub mod Complaints
pub mod Help
pub mod inside
