pub mod Names
pub mod Pushed
pub mod Kept
pub mod KeptImage
pub mod TornImage
