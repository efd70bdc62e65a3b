pub mod Select
pub mod Table
pub mod Along
pub mod Worked
pub mod inside
