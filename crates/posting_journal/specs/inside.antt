pub mod Kinds
pub mod Unopened
pub mod Steps
