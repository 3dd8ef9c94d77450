pub mod LastTask
pub mod NextLine
pub mod Inversions
pub mod WellLines
pub mod WellTasks
pub mod WellRead
pub mod Naming
