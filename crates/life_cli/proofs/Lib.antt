pub mod Names
pub mod Promised
pub mod WorkedStart
