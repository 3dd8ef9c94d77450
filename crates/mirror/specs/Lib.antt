pub mod Lines
pub mod Programs
pub mod Laws
pub mod inside
