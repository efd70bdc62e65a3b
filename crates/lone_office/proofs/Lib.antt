pub mod LoneTurns
pub mod BeginningSteps
