pub mod Taking
pub mod Going
