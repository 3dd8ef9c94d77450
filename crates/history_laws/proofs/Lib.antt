mod Steps
mod Down
mod Past
mod Safe
pub mod Walking
pub mod Telling
mod Moving
pub mod Young
mod ToldBy
mod Kept
mod Leasing
mod Settled
mod Running
mod Ending
mod Passed
mod Found
mod Leased
mod Anchors
mod Given
mod Example
