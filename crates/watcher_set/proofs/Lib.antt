pub mod Names
pub mod Halfway
pub mod Noting
pub mod Telling
