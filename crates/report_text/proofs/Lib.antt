pub mod Names
pub mod CallerLemmas
mod PartSteps
