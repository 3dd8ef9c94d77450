pub mod Along
pub mod Rebasing
pub mod Telling
pub mod Laws
pub mod AlongLaws
pub mod inside
