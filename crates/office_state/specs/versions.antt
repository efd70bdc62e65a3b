pub mod Commands
pub mod Policies
pub mod Places
pub mod Steps
