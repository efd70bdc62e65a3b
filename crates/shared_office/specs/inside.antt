pub mod Standing
pub mod Pinning
