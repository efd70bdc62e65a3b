pub mod Names
pub mod Generating
pub mod Loading
pub mod Worked
pub mod inside
