-- What was written of the text of a run
use Rattle.std.specs.Prelude.{◌≡◌, ◌<◌, ℕ, List, Option, Result, Ok, Err, length, take}
use Rattle.lane_runner.specs.Names.{Appends, flat_map, AppendsPart, Rose}
use Rattle.lane_runner.specs.declared.transcript.TranscriptLine.{TranscriptLine}
use Rattle.lane_runner.specs.declared.wording.Unwritten.{Unwritten}
use Rattle.lane_runner.specs.declared.wording.Unwritten.TheVariants.{WriteFault, NoMemory}

-- the texts of answered lines, one after the other
abbrev pub line_texts : (TranscriptLine → List ℕ) → List TranscriptLine → List ℕ
line_texts text lines = flat_map text lines

-- The texts of the first so many lines were written, and no more: memory was refused for the next one. The output had
-- no fault.
pub record StopsShort (faults faults_now : ℕ) (before now : Option (List ℕ)) (text : TranscriptLine → List ℕ)
    (lines : List TranscriptLine) : Type 0 where
  pub held : faults_now ≡ faults
  pub many : ℕ
  pub fewer : many < length lines
  pub wrote : Appends before now (line_texts text (take many lines))
  pub part : AppendsPart before now (line_texts text lines)

-- For an output with these counts of faults and bytes before and now: the text of all lines was written, without a
-- fault; or, since the output failed, a prefix and not all of it; or the texts of the lines before one for which
-- memory was refused.
abbrev pub HasEnded : (faults faults_now : ℕ) (before now : Option (List ℕ)) → (TranscriptLine → List ℕ) → List TranscriptLine
    → Result (Unit {0}) Unwritten → Type 0
HasEnded faults faults_now before now text lines (Ok done) = (faults_now ≡ faults) × Appends before now (line_texts text lines)
HasEnded faults faults_now before now text lines (Err WriteFault) =
    Rose faults faults_now × AppendsPart before now (line_texts text lines)
HasEnded faults faults_now before now text lines (Err (NoMemory lack)) = StopsShort faults faults_now before now text lines
