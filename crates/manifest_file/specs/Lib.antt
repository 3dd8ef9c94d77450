pub mod Manifests
pub mod Layout
pub mod Laws
