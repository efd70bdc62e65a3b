pub mod Names
pub mod PieceSteps
pub mod PartSteps
