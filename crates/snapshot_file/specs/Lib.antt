pub mod Nodes
pub mod Props
pub mod Snapshots
pub mod Layout
pub mod Heads
pub mod Initial
pub mod Laws
