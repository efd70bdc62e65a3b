pub mod Names
pub mod LaneNames
pub mod ScriptSteps
pub mod RunSteps
pub mod ScriptStatus
pub mod RunStatus
pub mod ShownSteps
pub mod WrittenSteps
