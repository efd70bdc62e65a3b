pub mod Names
pub mod Projecting
pub mod Valuing
pub mod Worked
pub mod WorkedProjections
pub mod inside
