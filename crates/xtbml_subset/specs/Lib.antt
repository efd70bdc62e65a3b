-- What a table file says: bytes, pieces and their nesting, documents, the checks of a table, and the answer.
pub mod Names
pub mod Classes
pub mod Pieces
pub mod Nesting
pub mod Texts
pub mod Documents
pub mod Checks
pub mod Answers
pub mod SelectChecks
pub mod AnyChecks
pub mod Worked
pub mod WorkedSelect
pub mod inside
