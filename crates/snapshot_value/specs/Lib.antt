pub mod Names
pub mod Growing
pub mod Listing
pub mod Reading
pub mod Valuing
pub mod inside
