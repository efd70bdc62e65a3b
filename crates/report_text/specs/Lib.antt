pub mod Names
pub mod Block
pub mod Parts
pub mod Worked
pub mod inside
