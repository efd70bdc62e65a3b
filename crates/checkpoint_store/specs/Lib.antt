pub mod Names
pub mod Spelling
pub mod Checkpoints
pub mod Stores
pub mod Starts
pub mod Reopening
pub mod Worked
pub mod inside
