-- What the reader finds on its way.
pub mod Machine
pub mod Reading
pub mod Tokens
pub mod Walk
pub mod Elements
pub mod Searches
pub mod Views
pub mod Rows
pub mod Issues
pub mod Steps
pub mod Parts
