-- How `load` and its parts end
use Rattle.std.specs.Prelude.{◌≡◌, ℕ, ◌⊎◌, true, false, List, [], ◌∷◌, codes, decimal, length, Result, Ok, Err}
use Rattle.trial_load.specs.Names.{generated_lanes, Shelving, sum_fields, Terminal, Appends, AllByRecursion, Rose, AppendsPart, IsValidPosting, Stream, WroteAll, Ending, Done, WriteFault, DiskFault, NoMemory, Lane, Row, IsWritableBlock}
use Rattle.snapshot_value.specs.declared.valuation.Valuation.{Valuation}
use Rattle.snapshot_value.specs.declared.valuation.ValueFault.{ValueFault}
use Rattle.snapshot_value.specs.declared.valuation.ValueFault.TheVariants.{Pin, NoMemory as NoValues}
use Rattle.policy_types.specs.Lanes.{lines_in}
use Rattle.lane_runner.specs.declared.transcript.TranscriptLine.{TranscriptLine}
use Rattle.lane_runner.specs.Tallies.{accepted_lines, any_faulted, any_lacked, refused_lines}
use Rattle.transcript_text.specs.Lanes.{AreScriptLanes}
use Rattle.text_lines.specs.Lines.{line_of}
use Rattle.outside_io.specs.declared.disks.Disk.{Ghosts}
use Rattle.lone_office.specs.Beginning.{EndsOverBasis}
use Rattle.trial_load.specs.Loading.{EndsLoading}

-- how many postings were accepted and how many were refused, how many policies there are, the sums of the lower and of
-- the upper bounds of their reserves, and how many have none
abbrev pub load_text : (accepted refused : ℕ) → List Row → List ℕ
load_text accepted refused rows =
    line_of (codes "load")
    (decimal accepted ∷ decimal refused ∷ decimal (length rows) ∷ sum_fields Terminal rows)

-- lanes that can be run, and only post
pub record AreLoadLanes (lanes : List Lane) : Type 0 where
  pub script : AreScriptLanes lanes
  pub postings : AllByRecursion IsValidPosting (lines_in lanes)

-- the results of a valuation after postings alone: its rows, which can be written, or that memory was refused
abbrev pub IsLoadAnswer : Result Valuation ValueFault → Type 0
IsLoadAnswer (Ok valuation) = IsWritableBlock valuation
IsLoadAnswer (Err (NoValues lack)) = Unit {0}
IsLoadAnswer (Err (Pin refusal)) = ⊥

-- what is written about the lines of a load and the rows of its valuation, and how it then ends by the outcomes of
-- the lines
abbrev pub EndsLine : List TranscriptLine → List Row → Stream → Ending → Type 0
EndsLine lines rows output Done =
    (any_faulted lines ≡ false) × (any_lacked lines ≡ false)
    × WroteAll output (load_text (accepted_lines lines) (refused_lines lines) rows)
EndsLine lines rows output DiskFault =
    (any_faulted lines ≡ true) × WroteAll output (load_text (accepted_lines lines) (refused_lines lines) rows)
EndsLine lines rows output WriteFault =
    Rose output.faults_before output.faults_after
    × AppendsPart output.before output.after (load_text (accepted_lines lines) (refused_lines lines) rows)
EndsLine lines rows output (NoMemory lack) =
    Appends output.before output.after []
    ⊎ ((any_faulted lines ≡ false) × (any_lacked lines ≡ true)
    × WroteAll output (load_text (accepted_lines lines) (refused_lines lines) rows))
EndsLine lines rows output _ = ⊥

-- the same; if the valuation was refused memory, nothing is written about it
abbrev pub EndsLoaded : List TranscriptLine → Result Valuation ValueFault → Stream → Ending → Type 0
EndsLoaded lines (Ok valuation) output ending = EndsLine lines valuation.rows output ending
EndsLoaded lines (Err (NoValues lack)) output (NoMemory other_lack) = Appends output.before output.after []
EndsLoaded lines (Err fault) output _ = ⊥

-- how `load` ends; without a basis, or without memory for the lanes, the disk isn't touched
abbrev pub EndsLoad : {D : Type 0} → Ghosts D → D → D → (seed count lanes workers : ℕ) → Shelving → Stream → Ending → Type 0
EndsLoad g old new seed count lanes workers shelf output ending =
    EndsOverBasis old new (λ basis. EndsLoading g old new (generated_lanes seed lanes count) workers basis output ending)
    (codes "basis.csv") shelf output ending
