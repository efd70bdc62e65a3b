pub mod Turns
pub mod Posted
pub mod Valued
