pub mod Names
pub mod History
pub mod Passes
pub mod inside
