pub mod Kept
pub mod Covered
pub mod Valued
