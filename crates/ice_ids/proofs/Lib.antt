pub mod DigitLaws
pub mod LetterLaws
pub mod TextLaws
pub mod Drawn
pub mod SetLaws
pub mod Elements
pub mod OneMore
