pub mod Names
pub mod CentsTextLemmas
pub mod Numerals
pub mod WorkedTexts
