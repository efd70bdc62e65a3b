pub mod Limits
pub mod Evidence
pub mod Rows
pub mod Words
