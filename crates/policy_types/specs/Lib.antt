pub mod Accounts
pub mod Lanes
pub mod Limits
pub mod Valid
pub mod Words
