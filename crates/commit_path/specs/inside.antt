pub mod Lists
pub mod Working
