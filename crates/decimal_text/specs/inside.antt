pub mod Splits
pub mod Places
pub mod Parts
