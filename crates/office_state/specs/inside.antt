pub mod Keeping
pub mod Books
pub mod Records
pub mod Replays
pub mod Holding
pub mod Pinning
pub mod Turns
