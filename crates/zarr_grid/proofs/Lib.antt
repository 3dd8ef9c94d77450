pub mod CellLaws
pub mod GridCells
pub mod GridEnds
pub mod PlaceSteps
