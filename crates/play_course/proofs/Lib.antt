pub mod Leaving
mod Playing
mod Tidy
mod Parents
mod Meeting
mod Knowing
mod Holding
mod Reading
pub mod Placing
mod Boxing
mod Committing
mod Rebasing
mod Naming
mod Opening
mod Settling
mod Calling
pub mod Released
mod Leasing
mod Tasks
mod Edges
mod Marking
mod Collecting
mod Looking
mod Expiring
mod Checking
mod Hiding
mod Whole
mod Objects
mod Releasing
mod Lines
mod Bodies
mod Ways
mod Commits
mod Ends
mod Promises
