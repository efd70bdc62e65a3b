pub mod Unread
pub mod Ran
pub mod Hearing
