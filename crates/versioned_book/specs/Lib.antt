pub mod Versions
pub mod Settings
pub mod Pasts
pub mod Books
pub mod inside
