pub mod Drives
pub mod PairLaws
