pub mod Names
pub mod Minimum
pub mod RoundedMinimum
pub mod Premiums
pub mod Ordinary
pub mod MinimumLaws
pub mod WorkedMinimums
