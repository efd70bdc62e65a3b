pub mod Projected
pub mod Valued
