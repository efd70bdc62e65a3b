pub mod Notes
pub mod Passing
pub mod Noting
