pub mod Names
pub mod SpellingLemmas
