pub mod Words
pub mod Parts
pub mod Values
pub mod HexText
pub mod Arrays
pub mod SoFar
