pub mod Name
pub mod Points
pub mod Row
pub mod Rows
pub mod File
pub mod Dated
pub mod Worked
pub mod inside
