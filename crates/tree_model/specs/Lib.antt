pub mod inside
pub mod Models
