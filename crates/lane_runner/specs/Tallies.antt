-- What is counted in answered lines, and what is searched for
use Rattle.std.specs.Prelude.{ℕ, Bool, true, false, List}
use Rattle.std.specs.List.{count_by, list_any}
use Rattle.office_state.specs.declared.answer.Answer.{Answer}
use Rattle.office_state.specs.declared.answer.Answer.TheVariants.{Accepted, Refused, DiskFault, NoMemory}
use Rattle.lane_runner.specs.declared.transcript.TranscriptLine.{TranscriptLine}
use Rattle.lane_runner.specs.declared.transcript.Outcome.{Outcome}
use Rattle.lane_runner.specs.declared.transcript.Outcome.TheVariants.{Posted, ValueNoMemory}

-- the outcome of a posting that was accepted, and of one that was refused
abbrev pub tells_accepted : Outcome → Bool
tells_accepted (Posted (Accepted position)) = true
tells_accepted _ = false

abbrev pub tells_refused : Outcome → Bool
tells_refused (Posted (Refused refusal)) = true
tells_refused _ = false

abbrev pub accepted_lines : List TranscriptLine → ℕ
accepted_lines lines = count_by (λ (told : TranscriptLine). tells_accepted told.outcome) lines

abbrev pub refused_lines : List TranscriptLine → ℕ
refused_lines lines = count_by (λ (told : TranscriptLine). tells_refused told.outcome) lines

abbrev pub is_faulted : Answer → Bool
is_faulted (DiskFault count) = true
is_faulted _ = false

-- the disk failed in the line's posting
abbrev pub has_faulted : Outcome → Bool
has_faulted (Posted answer) = is_faulted answer
has_faulted _ = false

abbrev pub any_faulted : List TranscriptLine → Bool
any_faulted lines = list_any (λ (told : TranscriptLine). has_faulted told.outcome) lines

-- memory was refused for the line's posting, or for its valuation
abbrev pub lacks_memory : Outcome → Bool
lacks_memory (Posted (NoMemory lack)) = true
lacks_memory (ValueNoMemory lack) = true
lacks_memory _ = false

abbrev pub any_lacked : List TranscriptLine → Bool
any_lacked lines = list_any (λ (told : TranscriptLine). lacks_memory told.outcome) lines
