pub mod Ahead
pub mod Parts
pub mod Paths
pub mod Portions
pub mod Rooms
pub mod Tallies
