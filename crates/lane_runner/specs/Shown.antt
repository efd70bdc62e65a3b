-- What was handed on of the lines' text, and by which moments
use Rattle.std.specs.Prelude.{◌≡◌, ℕ, ◌≤◌, ◌<◌, true, List, ◌∷◌, ◌++◌, length, take, Some, slice_get, Result, Ok, Err}
use Rattle.lane_runner.specs.Names.{AllByRecursion, TakenPiece, taken_bytes}
use Rattle.lane_runner.specs.declared.transcript.TranscriptLine.{TranscriptLine}
use Rattle.lane_runner.specs.declared.wording.Unwritten.{Unwritten}
use Rattle.lane_runner.specs.Tallies.{accepted_lines, tells_accepted}
use Rattle.lane_runner.specs.Written.{line_texts}

-- Each piece that reaches past where the text of an accepted line begins was handed on by that line's moment or a later one.
abbrev pub AreShown : (TranscriptLine → List ℕ) → List TakenPiece → List TranscriptLine → List ℕ → Type 0
AreShown text pieces lines moments =
    (later earlier : List TakenPiece) (piece : TakenPiece) → pieces ≡ later ++ piece ∷ earlier
    → (before after : List TranscriptLine) (told : TranscriptLine) → lines ≡ before ++ told ∷ after
    → tells_accepted told.outcome ≡ true → length (line_texts text before) < length (taken_bytes (piece ∷ earlier))
    → (moment : ℕ) × (slice_get moments (accepted_lines before) ≡ Some moment) × (moment ≤ piece.since)

-- all of a text was handed on if it was written whole; else a prefix and not all of it
abbrev pub IsHandedOn : List ℕ → List ℕ → Result (Unit {0}) Unwritten → Type 0
IsHandedOn text handed (Ok done) = handed ≡ text
IsHandedOn text handed (Err why) = (n : ℕ) × (n < length text) × (handed ≡ take n text)

-- The pieces that were handed on since are pieces of the lines' text. Each accepted line has its moment, and none of
-- its text was handed on before that. The latest of these moments is known.
pub record HasShown (text : TranscriptLine → List ℕ) (before now : List TakenPiece) (lines : List TranscriptLine)
    (moments : List ℕ) (latest : ℕ) (written : Result (Unit {0}) Unwritten) : Type 0 where
  pub run : List TakenPiece
  pub added : now ≡ run ++ before
  pub handed : IsHandedOn (line_texts text lines) (taken_bytes run) written
  pub shown : AreShown text run lines moments
  pub latest_is : AllByRecursion (λ moment. moment ≤ latest) moments
  pub counted : length moments ≡ accepted_lines lines
