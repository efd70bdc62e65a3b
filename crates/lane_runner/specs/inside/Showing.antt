-- A text that is gathered before it is handed on, and the moments of its lines
use Rattle.std.specs.Prelude.{◌≡◌, ℕ, ◌≤◌, ◌<◌, List, ◌++◌, length, take, Option, Some, None}
use Rattle.lane_runner.specs.Names.{AllByRecursion, TakenPiece, taken_bytes}
use Rattle.lane_runner.specs.declared.transcript.TranscriptLine.{TranscriptLine}
use Rattle.lane_runner.specs.declared.wording.Unwritten.{Unwritten}
use Rattle.lane_runner.specs.Tallies.{accepted_lines}
use Rattle.lane_runner.specs.Written.{line_texts}
use Rattle.lane_runner.specs.Shown.{AreShown}

-- all of a text was handed on except what is gathered; or a prefix and not all of it was, and no more will be
abbrev pub IsHandingOn : List ℕ → List ℕ → List ℕ → Option Unwritten → Type 0
IsHandingOn text handed gathered None = handed ++ gathered ≡ text
IsHandingOn text handed gathered (Some why) = (n : ℕ) × (n < length text) × (handed ≡ take n text)

-- The pieces that were handed on since are pieces of the lines' text. Each accepted line has its moment, and more
-- moments may be known.
pub record IsShowing (text : TranscriptLine → List ℕ) (first now : List TakenPiece) (lines : List TranscriptLine)
    (moments : List ℕ) (latest : ℕ) (gathered : List ℕ) (stopped : Option Unwritten) : Type 0 where
  pub run : List TakenPiece
  pub added : now ≡ run ++ first
  pub handed : IsHandingOn (line_texts text lines) (taken_bytes run) gathered stopped
  pub shown : AreShown text run lines moments
  pub latest_is : AllByRecursion (λ moment. moment ≤ latest) moments
  pub enough : accepted_lines lines ≤ length moments
