pub mod Names
pub mod Numbers
pub mod Spelling
pub mod Worked
pub mod inside
