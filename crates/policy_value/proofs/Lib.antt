pub mod Names
pub mod Keeping
pub mod Asking
pub mod Statuses
pub mod Valued
pub mod Covering
pub mod Putting
pub mod PerUnit
