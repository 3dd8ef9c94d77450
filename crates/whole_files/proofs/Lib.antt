pub mod Folders
pub mod Left
