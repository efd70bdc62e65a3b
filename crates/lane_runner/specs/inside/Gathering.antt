-- A text that is gathered before it is written
use Rattle.std.specs.Prelude.{◌≡◌, ℕ, List, ◌++◌, Option, Some, None}
use Rattle.lane_runner.specs.Names.{Appends, Rose, AppendsPart}
use Rattle.lane_runner.specs.declared.transcript.TranscriptLine.{TranscriptLine}
use Rattle.lane_runner.specs.declared.wording.Unwritten.{Unwritten}
use Rattle.lane_runner.specs.declared.wording.Unwritten.TheVariants.{WriteFault, NoMemory}
use Rattle.lane_runner.specs.Written.{StopsShort, line_texts}

-- all of the text so far was written except what is gathered, and the output had no fault
pub record IsGathering (faults faults_now : ℕ) (before now : Option (List ℕ)) (text gathered : List ℕ) : Type 0 where
  pub held : faults_now ≡ faults
  pub out : List ℕ
  pub wrote : Appends before now out
  pub is : out ++ gathered ≡ text

-- Of the text of the lines so far, all was written except what is gathered. Or a prefix and not all of it was
-- written, since the output failed, or the texts of the lines before one for which memory was refused; then no more
-- will be written.
abbrev pub HasPutOut : (faults faults_now : ℕ) (before now : Option (List ℕ)) → (TranscriptLine → List ℕ) → List TranscriptLine
    → (gathered : List ℕ) → Option Unwritten → Type 0
HasPutOut faults faults_now before now text lines gathered None =
    IsGathering faults faults_now before now (line_texts text lines) gathered
HasPutOut faults faults_now before now text lines gathered (Some WriteFault) =
    Rose faults faults_now × AppendsPart before now (line_texts text lines)
HasPutOut faults faults_now before now text lines gathered (Some (NoMemory lack)) = StopsShort faults faults_now before now text lines
