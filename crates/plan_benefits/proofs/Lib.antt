pub mod AgeAtIssue
pub mod ByAgeAlone
