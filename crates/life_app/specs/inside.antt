pub mod Unasked
pub mod Obeying
