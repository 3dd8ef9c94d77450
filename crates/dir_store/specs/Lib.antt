pub mod Store
pub mod Listings
pub mod Contents
pub mod Faults
pub mod Texts
pub mod Firm
pub mod Losing
pub mod inside
