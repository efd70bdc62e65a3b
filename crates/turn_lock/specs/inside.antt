pub mod Seats
pub mod Rule
pub mod Steps
pub mod Places
