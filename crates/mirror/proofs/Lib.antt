pub mod Parts
pub mod Fair
pub mod Answering
pub mod Stepping
pub mod Staging
pub mod Landing
pub mod Taking
pub mod Listing
