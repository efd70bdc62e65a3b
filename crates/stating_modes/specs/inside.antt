pub mod Accounts
pub mod Rereading
pub mod Reopened
pub mod Saving
