pub mod EachBound
pub mod Greater
pub mod Names
pub mod Orders
pub mod Dues
pub mod Minima
pub mod Bounds
pub mod Tests
