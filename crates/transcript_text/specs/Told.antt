-- Which answers can be written, and the text of answered lines
use Rattle.std.specs.Prelude.{◌<◌, ℕ, ◌^◌, List, [], ◌++◌}
use Rattle.transcript_text.specs.Names.{flat_map, Refusal, Taken, Unknown, BeforeLast, WrongStatus, TermOver, NothingDue, TooEarly, GraceOver, NotInArrears, TooLate, WrongAmount, NotAReduction, NotMatured, OverSettled, Full, NotUpgraded, Upgraded, Line, Post, Value, Trim, Report, IsDay, IsTermDay, reply_of, block_text}
use Rattle.office_state.specs.declared.answer.Answer.{Answer}
use Rattle.office_state.specs.declared.answer.Answer.TheVariants.{Refused}
use Rattle.lane_runner.specs.declared.transcript.TranscriptLine.{TranscriptLine}
use Rattle.lane_runner.specs.declared.transcript.Outcome.{Outcome}
use Rattle.lane_runner.specs.declared.transcript.Outcome.TheVariants.{Posted, Trimmed, Valued, ValueRefused, ValueNoMemory}
use Rattle.program_endings.specs.Blocks.{IsWritableBlock}
use Rattle.transcript_text.specs.Lines.{posting_text, reports_text, trim_text, unpinned_text, unvalued_text}

-- the day or amount of the refusal can be written
abbrev pub IsPrintable : Refusal → Type 0
IsPrintable Taken = Unit {0}
IsPrintable Unknown = Unit {0}
IsPrintable (BeforeLast last) = IsTermDay last
IsPrintable (WrongStatus status) = Unit {0}
IsPrintable (TermOver end) = IsTermDay end
IsPrintable NothingDue = Unit {0}
IsPrintable (TooEarly due) = IsTermDay due
IsPrintable (GraceOver due) = IsTermDay due
IsPrintable (NotInArrears due) = IsTermDay due
IsPrintable (TooLate limit) = IsTermDay limit
IsPrintable (WrongAmount amount) = amount < 2 ^ 63
IsPrintable (NotAReduction amount) = amount < 2 ^ 63
IsPrintable (NotMatured end) = IsTermDay end
IsPrintable (OverSettled outstanding) = outstanding < 2 ^ 63
IsPrintable Full = Unit {0}
IsPrintable NotUpgraded = Unit {0}
IsPrintable (Upgraded position) = Unit {0}

-- a refusal can be written
abbrev pub IsToldAnswer : Answer → Type 0
IsToldAnswer (Refused refusal) = IsPrintable refusal
IsToldAnswer _ = Unit {0}

-- the outcome of a line can be written
abbrev pub IsWritableOutcome : Line → Outcome → Type 0
IsWritableOutcome (Post command) (Posted answer) = IsToldAnswer answer
IsWritableOutcome Trim (Trimmed floor) = Unit {0}
IsWritableOutcome (Value on at workers) (Valued valuation) = IsDay on × IsWritableBlock valuation.value
IsWritableOutcome (Value on at workers) (ValueRefused refusal) = IsDay on
IsWritableOutcome (Value on at workers) (ValueNoMemory lack) = IsDay on
IsWritableOutcome _ _ = ⊥

abbrev pub IsWritable : TranscriptLine → Type 0
IsWritable told = IsWritableOutcome told.line told.outcome

-- the text of the outcome of a lane's line
abbrev pub outcome_text : ℕ → Line → Outcome → List ℕ
outcome_text clerk (Post command) (Posted answer) = posting_text clerk command (reply_of answer)
outcome_text clerk Trim (Trimmed floor) = trim_text clerk floor
outcome_text clerk (Value on at workers) (Valued valuation) =
    block_text clerk on valuation.value.position valuation.value.measure valuation.value.rows
outcome_text clerk (Value on at workers) (ValueRefused refusal) = unpinned_text clerk on refusal
outcome_text clerk (Value on at workers) (ValueNoMemory lack) = unvalued_text clerk on
outcome_text clerk _ _ = []

abbrev pub told_text : TranscriptLine → List ℕ
told_text told = outcome_text told.lane told.line told.outcome

abbrev pub told_texts : List TranscriptLine → List ℕ
told_texts lines = flat_map told_text lines

-- the text of a run: the outcomes of the lines, then the watchers' reports
abbrev pub run_text : List TranscriptLine → List Report → List ℕ
run_text lines reports = told_texts lines ++ reports_text reports
