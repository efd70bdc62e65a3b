pub mod Renewing
pub mod Names
pub mod Drawing
mod Dealing
mod Counting
pub mod Facts
