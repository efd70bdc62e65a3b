-- What a transcript says of the lanes that were run
use Rattle.std.specs.Prelude.{◌≡◌, ◌↔◌, ℕ, ◌≤◌, ◌+◌, ◌^◌, nat_eq, Bool, true, false, List, ◌++◌, map, take, Some}
use Rattle.lane_runner.specs.Names.{AllByRecursion, AllZip, Contains, IsDistinct, filter, Dated, Entry, Line, Post, Value, Trim, Lane, AnswersLanes, Holding, OfficeOpening, IsSnapshot, Opening, commands_after, StartsWith, entries_of}
use Rattle.policy_types.specs.declared.command.Command.{Command}
use Rattle.policy_types.specs.declared.entry.Reply.{Reply}
use Rattle.policy_types.specs.declared.entry.Reply.TheVariants.{Pinned, PinRefused, Floor}
use Rattle.policy_value.specs.declared.worth.Measure.TheVariants.{Terminal}
use Rattle.office_state.specs.Posting.{reply_of}
use Rattle.lane_runner.specs.declared.transcript.TranscriptLine.{TranscriptLine}
use Rattle.lane_runner.specs.declared.transcript.Outcome.{Outcome}
use Rattle.lane_runner.specs.declared.transcript.Outcome.TheVariants.{Posted, Trimmed, Valued, ValueRefused, ValueNoMemory}
use Rattle.lane_runner.specs.declared.transcript.Transcript.{Transcript}
use Rattle.lane_runner.specs.AnsweredLines.{AnsweredLine, AreLinesOf}

-- the outcome of a line is the reply of its first turn; that of a valuation that was pinned is the snapshot of these
-- commands at that position, with terminal reserves, or that memory was refused
abbrev pub IsOutcome : List Command → List Dated → Line → Reply → Outcome → Type 0
IsOutcome commands basis (Post command) reply (Posted answer) = reply ≡ reply_of answer
IsOutcome commands basis Trim reply (Trimmed floor) = reply ≡ Floor floor
IsOutcome commands basis (Value on at workers) reply (ValueRefused refusal) = reply ≡ PinRefused refusal
IsOutcome commands basis (Value on at workers) reply (Valued valuation) =
    (position : ℕ) × ((policies : ℕ) × (reply ≡ Pinned position policies) × IsSnapshot commands basis on Terminal position valuation.value)
IsOutcome commands basis (Value on at workers) reply (ValueNoMemory lack) =
    (position : ℕ) × ((policies : ℕ) × (reply ≡ Pinned position policies))
IsOutcome _ _ _ _ _ = ⊥

-- The transcript's line is the answered one, with the place of its first turn. Its outcome is by the commands that
-- were accepted before this turn.
pub record IsTold (opening : Opening) (history : List Entry) (basis : List Dated) (answered : AnsweredLine)
    (told : TranscriptLine) : Type 0 where
  pub lane : told.lane ≡ answered.clerk
  pub line : told.line ≡ answered.line
  pub turn : told.turn ≡ answered.first.0
  pub outcome : IsOutcome (commands_after opening (take answered.first.0 history)) basis answered.line answered.first.1.reply told.outcome

abbrev pub lacked_memory : Outcome → Bool
lacked_memory (ValueNoMemory lack) = true
lacked_memory _ = false

-- the pins of the valuations whose outcome is that memory was refused
abbrev pub dry_of : List TranscriptLine → List ℕ
dry_of lines =
    map (λ (told : TranscriptLine). told.turn) (filter (λ (told : TranscriptLine). lacked_memory told.outcome) lines)

-- the outcome of a line is that memory was refused exactly if its turn is among these pins
abbrev pub AreDry : List ℕ → List TranscriptLine → Type 0
AreDry dry lines =
    AllByRecursion (λ (told : TranscriptLine). Contains dry told.turn ↔ (lacked_memory told.outcome ≡ true)) lines

-- The pages of the lanes' callers were added to the pass, which has also seen more and has spent some of its turns;
-- nothing else changed. The callers differ, and none of the entries that it has seen since is its own.
pub record HasRunLanes {Opening : Type 0} (old new : Holding Opening) (callers : List ℕ) : Type 0 where
  pub turnstile : new.turnstile ≡ old.turnstile
  pub opening : new.opening ≡ old.opening
  pub caller : new.caller ≡ old.caller
  pub shares : new.shares ≡ old.shares
  pub left : old.left ≤ new.left + 2 ^ 25
  pub made : new.made ≡ old.made
  pub begins : StartsWith new.seen old.seen
  pub own : entries_of new.seen old.caller ≡ entries_of old.seen old.caller
  pub ended : new.ended ≡ old.ended ++ map (λ caller. (caller, entries_of new.seen caller)) callers
  pub distinct : IsDistinct nat_eq callers

-- Each lane was run by a caller of its own: every line is answered once, in the order of its lane, by that caller's
-- turns in the history that the pass has seen. The transcript has these lines at the places of their first turns.
pub record HasAnsweredLanes {D W : Type 0} (basis : List Dated) (lanes : List Lane) (old new : Holding (OfficeOpening D W))
    (transcript : Transcript) : Type 0 where
  pub pass : HasRunLanes old new transcript.callers
  pub answers : AnswersLanes (dry_of transcript.lines) new.seen lanes transcript.callers
  pub answered : List AnsweredLine
  pub lines : AreLinesOf answered new.seen lanes transcript.callers (dry_of transcript.lines)
  pub opened : OfficeOpening D W
  pub opening : new.opening ≡ Some opened
  pub told : AllZip (IsTold opened.opening new.seen basis) answered transcript.lines
  pub dry : AreDry (dry_of transcript.lines) transcript.lines
