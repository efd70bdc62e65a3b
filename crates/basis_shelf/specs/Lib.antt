pub mod Names
pub mod Files
pub mod Bases
pub mod FirstBad
pub mod Answers
pub mod Lines
pub mod Worked
pub mod inside
