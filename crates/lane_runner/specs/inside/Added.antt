-- The lines that were added, and their tallies
use Rattle.std.specs.Prelude.{◌≡◌, ℕ, Bool, List, [], ◌∷◌, ◌++◌}
use Rattle.lane_runner.specs.declared.transcript.TranscriptLine.{TranscriptLine}
use Rattle.lane_runner.specs.declared.transcript_lines.Added.{Added, Nothing, Of'}
use Rattle.lane_runner.specs.Tallies.{accepted_lines, any_faulted, any_lacked, refused_lines}

-- the lines, in order
abbrev pub all_added : Added → List TranscriptLine
all_added Nothing = []
all_added (Of' mark earlier told) = all_added earlier ++ told.value ∷ []

-- how many of the lines report an accepted posting and how many a refused one, and whether in one the disk failed or
-- memory was refused
pub record AreTallied (lines : List TranscriptLine) (accepted refused : ℕ) (faulted lacked : Bool) : Type 0 where
  pub accepted_is : accepted ≡ accepted_lines lines
  pub refused_is : refused ≡ refused_lines lines
  pub faulted_is : faulted ≡ any_faulted lines
  pub lacked_is : lacked ≡ any_lacked lines
