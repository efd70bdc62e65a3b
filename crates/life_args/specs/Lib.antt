pub mod Names
pub mod Answers
pub mod Pieces
pub mod Values
pub mod Words
pub mod Worked
pub mod inside
