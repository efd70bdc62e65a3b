pub mod FileSteps
pub mod LawLemmas
pub mod MomentSteps
pub mod PieceSteps
pub mod StreamLemmas
