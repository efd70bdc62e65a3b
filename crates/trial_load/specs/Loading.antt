-- How `load` ends: the generated lanes were run, the policies were valued at the count, and a line reports the result
use Rattle.std.specs.Prelude.{◌≡◌, ℕ, ◌⊎◌, ℤ, pos, Bool, true, false, List, [], ◌∷◌, ◌++◌, codes, decimal, length, nat_eq}
use Rattle.trial_load.specs.Names.{AllByRecursion, AllZip, count_by, Rose, Stream, WroteAll, Ending, Done, WriteFault, DiskFault, NoMemory, Now, Post, Reply, Refused, Entry, Value, Lane, Opening, IsLegal, accepted_of, commands_after, opened_on, Terminal, Row, AreAnswered, ArePins, HaveAFault, LackMemory, WrotePart, sum_fields}
use Rattle.std.specs.List.{Contains, IsDistinct, enumerate_from}
use Rattle.lane_runner.specs.AnsweredLines.{AnsweredLine, AreLinesOf}
use Rattle.outside_io.specs.declared.disks.Disk.{Ghosts}
use Rattle.policy_types.specs.declared.command.Command.{Command}
use Rattle.policy_types.specs.declared.entry.Call.{Call}
use Rattle.policy_machine.specs.Book.{book}
use Rattle.policy_machine.specs.Merge.{AnswersLine}
use Rattle.basis_book.specs.Dated.{Dated}
use Rattle.policy_value.specs.Rows.{IsValuedRow}
use Rattle.office_state.specs.Images.{IsLeftAlone, IsLeftBy}
use Rattle.office_state.specs.Journals.{Opens}
use Rattle.text_lines.specs.Lines.{line_of}
use Rattle.program_endings.specs.Refusals.{EndsNoOffice}

-- 2020-12-31, on which the policies are valued
abbrev pub load_day : ℤ
load_day = pos 18627

-- the turn was a posting that the rules refused
abbrev pub is_refusal : Call → Reply → Bool
is_refusal (Post command) (Refused refusal) = true
is_refusal _ _ = false

-- how many postings of the history were refused
abbrev pub refused_in : List Entry → ℕ
refused_in history = count_by (λ (entry : Entry). is_refusal entry.call entry.reply) history

-- The office was opened on the commands of the disk's file. A legal history from there answers each line of the
-- generated lanes once, in order; and then, by a caller of its own after all other turns, a valuation at the count.
-- The disk holds what was accepted. The valuation's pin is in the list of those out of memory if the valuation was
-- refused memory.
pub record IsLoadOf {D : Type 0} (g : Ghosts D) (old new : D) (lanes : List Lane) (workers : ℕ)
    (Tells : Opening → List Entry → List ℕ → Type 0) : Type 0 where
  pub commands : List Command
  pub postings : List Entry
  pub valuation : List Entry
  pub opened : g.honest new → Opens (g.reads old) commands
  pub legal : IsLegal (opened_on commands (g.faults old)) (postings ++ valuation)
  pub callers : List ℕ
  pub valuer : ℕ
  pub dry : List ℕ
  pub lines : List AnsweredLine
  pub distinct : IsDistinct nat_eq (valuer ∷ callers)
  pub theirs : AllByRecursion (λ entry. Contains callers entry.caller) postings
  pub answered : AreLinesOf lines postings lanes callers dry
  pub behind : AllByRecursion (λ (entry : Entry). entry.caller ≡ valuer) valuation
  pub values : AnswersLine dry (Value load_day Now workers) (enumerate_from (length postings) valuation)
  pub pins : ArePins (postings ++ valuation) dry
  pub tells : Tells (opened_on commands (g.faults old)) (postings ++ valuation) dry
  pub disk : IsLeftBy g old new (opened_on commands (g.faults old)) (postings ++ valuation)

-- The line was written about the history, and about the rows of the policies that all its commands leave; the bounds
-- of each insured policy enclose its exact terminal reserve, or a word says why it has none. The line gives how many
-- postings were accepted and how many were refused, how many policies there are, the sums of the lower and of the
-- upper bounds of their reserves, and how many have none. The valuation was not refused memory.
pub record HasLine (basis : List Dated) (Wrote : List ℕ → Type 0) (Replies : List Entry → List ℕ → Type 0)
    (opening : Opening) (history : List Entry) (dry : List ℕ) : Type 0 where
  pub rows : List Row
  pub each : AllZip (IsValuedRow basis load_day Terminal) (book (commands_after opening history)) rows
  pub wrote : Wrote (line_of (codes "load")
      (decimal (length (accepted_of history)) ∷ decimal (refused_in history) ∷ decimal (length rows) ∷ sum_fields Terminal rows))
  pub found : dry ≡ []
  pub replies : Replies history dry

-- How `load` ends by the basis that it needs. Where no office was opened, or there was no memory to run the lanes, the disk is left alone.
abbrev pub EndsLoading : {D : Type 0} → Ghosts D → D → D → List Lane → ℕ → List Dated → Stream → Ending → Type 0
EndsLoading g old new lanes workers basis output Done =
    IsLoadOf g old new lanes workers (HasLine basis (WroteAll output) AreAnswered)
EndsLoading g old new lanes workers basis output WriteFault =
    IsLoadOf g old new lanes workers (HasLine basis (WrotePart output) (λ history dry. Unit {0}))
EndsLoading g old new lanes workers basis output DiskFault =
    (EndsNoOffice g old new output DiskFault × IsLeftAlone g old new)
    ⊎ (Rose (g.faults old) (g.faults new) × IsLoadOf g old new lanes workers (HasLine basis (WroteAll output) (λ history dry. HaveAFault history)))
EndsLoading g old new lanes workers basis output (NoMemory lack) =
    (EndsNoOffice g old new output (NoMemory lack) × IsLeftAlone g old new)
    ⊎ IsLoadOf g old new lanes workers (λ opening history dry. WroteAll output [])
    ⊎ IsLoadOf g old new lanes workers (HasLine basis (WroteAll output) LackMemory)
EndsLoading g old new lanes workers basis output ending = EndsNoOffice g old new output ending × IsLeftAlone g old new
