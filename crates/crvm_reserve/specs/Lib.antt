pub mod Names
pub mod Rounded
pub mod RoundedMean
pub mod Made
pub mod MeanMade
pub mod Worked
