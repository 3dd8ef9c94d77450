pub mod Sources
pub mod Sized
pub mod Texts
pub mod Edits
pub mod Setting
pub mod Drawing
pub mod Editing
pub mod Putting
pub mod Programs
pub mod Chains
pub mod Ancestors
pub mod Carrying
pub mod Origins
pub mod Gotten
pub mod Grounds
pub mod Began
pub mod Linked
pub mod CarriedAlong
pub mod Walked
pub mod Single
pub mod Removals
pub mod Expiring
pub mod Checking
pub mod Along
pub mod Unput
pub mod Firsts
pub mod Cutting
pub mod Growing
pub mod Given
pub mod Passing
pub mod Running
pub mod Beginnings
pub mod Played
pub mod Joined
mod Moments
mod Taking
mod Commits
mod One
mod Several
mod Needed
