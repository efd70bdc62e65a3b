-- What a lane says of its lines, one after the other
use Rattle.std.specs.Prelude.{◌≡◌, ℕ, ◌<◌, List, Some, slice_get}
use Rattle.lane_runner.specs.Names.{AllByRecursion, Dated, Entry, AnswersLine, IsValid, IsLegal, Opening, commands_after}
use Rattle.lane_runner.specs.declared.transcript.TranscriptLine.{TranscriptLine}
use Rattle.lane_runner.specs.AnsweredLines.{AnsweredLine, turns_in}
use Rattle.lane_runner.specs.Lanes.{IsRightLine}
use Rattle.lane_runner.specs.Transcripts.{IsTold}

-- A legal history answers a line by these turns, the first of which is at its place, and this is the outcome.
pub record IsLegallyTold (told : TranscriptLine) : Type 0 where
  pub opening : Opening
  pub history : List Entry
  pub legal : IsLegal opening history
  pub valid : AllByRecursion IsValid (commands_after opening history)
  pub basis : List Dated
  pub dry : List ℕ
  pub answered : AnsweredLine
  pub placed : slice_get history answered.first.0 ≡ Some answered.first.1
  pub answers : AnswersLine dry answered.line (turns_in answered)
  pub told_of : IsTold opening history basis answered told
  pub right : IsRightLine told.line

-- the turn of each of these lines stands before this one
abbrev pub AreBefore : List TranscriptLine → ℕ → Type 0
AreBefore lines turn = AllByRecursion (λ (told : TranscriptLine). told.turn < turn) lines

-- a lane that has reported these lines may report this one next
pub record MayTellNext (before : List TranscriptLine) (told : TranscriptLine) : Type 0 where
  pub behind : AreBefore before told.turn
  pub tellable : IsLegallyTold told
