pub mod Names
pub mod Script
pub mod Shown
pub mod Texts
pub mod Outcome
pub mod Running
pub mod Worked
pub mod inside
