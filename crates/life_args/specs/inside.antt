pub mod Short
pub mod Lines
pub mod Verbs
