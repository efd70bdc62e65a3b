pub mod Generator
pub mod GeneratedRows
pub mod GeneratedScript
pub mod GeneratedLanes
pub mod Worked
pub mod inside
