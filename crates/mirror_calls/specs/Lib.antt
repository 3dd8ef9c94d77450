pub mod Deeds
pub mod Copies
pub mod Owed
pub mod Reports
pub mod Journals
pub mod Laws
