pub mod Names
pub mod Transcript
pub mod Lines
pub mod Told
pub mod Lanes
