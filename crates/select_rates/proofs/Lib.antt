pub mod Names
pub mod Periods
pub mod Extending
pub mod Values
