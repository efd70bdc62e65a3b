-- How `project` ends, by what its parts did
use Rattle.valuing_modes.proofs.Names.{◌≡◌, ap, ℕ, ◌≤◌, ℤ, List, [], length, take, subst, Result, Ok, Err, append-nil, arith, Option, ints, AppendsPart, Ghosts, IsDay, Dated, Command, Policy, Now, Opening, IsDue, commands_after, opened_on, pin_call, IsLeftBy, IsOfficeHistory, OfficeOpening, Holding, PassFacts, ValueFault, Ending, Done, WriteFault, NoMemory, Stream, WroteAll, EndsProjecting, IsProjectionText}
use Rattle.std.proofs.lemmas.List.{take_all}
use Rattle.policy_types.specs.Accounts.{Booking}
use Rattle.policy_types.specs.declared.entry.PinRefusal.{PinRefusal}
use Rattle.policy_types.specs.declared.entry.PinRefusal.TheVariants.{Ahead, Trimmed, PinsFull}
use Rattle.policy_types.specs.declared.entry.Reply.{Reply}
use Rattle.policy_types.specs.declared.entry.Reply.TheVariants.{Accepted, Refused, Faulted, Pinned, PinRefused, Slice, Unpinned, Floor, Blank}
use Rattle.policy_types.specs.declared.watcher.Report.{Report}
use Rattle.policy_machine.specs.Book.{book}
use Rattle.office_state.specs.States.{MomentRing}
use Rattle.shared_office.specs.Starting.{HasClosed, HasStartedOffice}
use Rattle.watcher_set.specs.declared.watching.Watching.{Ghosts as WatcherGhosts}
use Rattle.snapshot_value.specs.Reading.{AnswersPinned}
use Rattle.snapshot_value.specs.declared.valuation.ValueFault.TheVariants.{Pin, NoMemory as NoValues}
use Rattle.cash_projection.specs.Pinned.{HasProjected, IsProjectionAt}
use Rattle.std.proofs.lemmas.List.FromFn.{length-map-range_with_len}
use Rattle.cash_projection.specs.Cash.{rounded_year}
use Rattle.cash_projection.proofs.CallerLemmas.{cash_tellable}
use Rattle.cash_projection.specs.Text.{projection_text}
use Rattle.cash_projection.specs.declared.printing.Projection.{Projection}
use Rattle.lone_office.proofs.LoneTurns.{lone_answered, lone_due, lone_left}
use Rattle.valuing_modes.specs.inside.Projected.{EndsPrinted, EndsProjected, CanBePrinted, IsLoneProjection}

-- an office was opened, and the projection was written
ends_projected : {D : Type 0} (g : Ghosts D) (old disk : D) (on : ℤ) (years : ℕ) (basis : List Dated) (output : Stream)
    (commands : List Command) (ending : Ending) → IsLeftBy g old disk (opened_on commands (g.faults old)) []
    → EndsProjected commands on years basis output ending → EndsProjecting g old disk on years basis output ending
ends_projected g old disk on years basis output commands Done left ends =
    record { commands = commands; so = ends; disk = left }
ends_projected g old disk on years basis output commands WriteFault left ends =
    (ends.0, record { commands = commands; so = ends.1; disk = left })
ends_projected g old disk on years basis output commands (NoMemory lack) left ends = ((ends, left.faults), left.alone tt)
ends_projected g old disk on years basis output commands _ left ends = absurd ends

-- A projection at a position can be printed.
module _ (basis : List Dated) (on : ℤ) (years : ℕ) (day : IsDay on) (few : years ≤ 131) where
  printable : (position : ℕ) (policies : List Policy) (projection : Projection) → IsProjectionAt basis on years position policies projection
      → CanBePrinted projection
  printable position policies projection is = record {
    day = let same : projection.on ≡ on = is.day in omega (arith, ints, same, day);
    few = omega (arith, ap length is.cash.rounded, length-map-range_with_len (rounded_year is.cash.prospects) 0 years, few);
    bounded = cash_tellable basis on policies years projection.unvalued projection.years is.cash is.few;
  }

-- The answer of an office at which nobody turned before.
module _ (opening : Opening) (caller : ℕ) (on : ℤ) (years : ℕ) (basis : List Dated) where
  abbrev commands : List Command
  commands = commands_after opening []

  never_refused : (refusal : PinRefusal) → IsDue opening [] caller (pin_call Now) (PinRefused refusal) → ⊥
  never_refused (Ahead count) due = due
  never_refused (Trimmed floor) due = due
  never_refused PinsFull due = absurd (let full : 16 ≤ 0 = due in omega (arith, full))

  lone_projection : (reply : Reply) (answer : Result Projection ValueFault) → IsDay on → years ≤ 131 → IsDue opening [] caller (pin_call Now) reply
      → AnswersPinned (IsProjectionAt basis on years) commands reply answer → IsLoneProjection answer
  lone_projection (Pinned position policies) (Ok projection) day few due is =
      printable basis on years day few position (book (take position commands)) projection is
  lone_projection (Pinned position policies) (Err (NoValues lack)) day few due is = tt
  lone_projection (Pinned position policies) (Err (Pin why)) day few due is = absurd is
  lone_projection (PinRefused refusal) answer day few due is = absurd (never_refused refusal due)
  lone_projection (Accepted position) answer day few due is = absurd is
  lone_projection (Refused refusal) answer day few due is = absurd is
  lone_projection (Faulted count) answer day few due is = absurd is
  lone_projection (Slice policies) answer day few due is = absurd is
  lone_projection Unpinned answer day few due is = absurd is
  lone_projection (Floor floor) answer day few due is = absurd is
  lone_projection Blank answer day few due is = absurd is

  module _ (output : Stream) where
    text_of : (position policies : ℕ) (projection : Projection) (Wrote : List ℕ → Type 0) → IsDue opening [] caller (pin_call Now) (Pinned position policies)
        → IsProjectionAt basis on years position (book (take position commands)) projection → Wrote (projection_text projection)
        → IsProjectionText commands on years basis Wrote
    text_of position policies projection Wrote due is wrote =
        let all : position ≡ length commands = due.1 in
        record {
          projection = projection;
          is = subst (λ (cs : List Command). IsProjectionAt basis on years (length commands) (book cs) projection)
              (take_all (length commands) commands (omega arith))
              (subst (λ p. IsProjectionAt basis on years p (book (take p commands)) projection) all is);
          wrote = wrote;
        }

    lone_printed : (reply : Reply) (answer : Result Projection ValueFault) (ending : Ending) → IsDue opening [] caller (pin_call Now) reply
        → AnswersPinned (IsProjectionAt basis on years) commands reply answer → EndsPrinted answer output ending
        → EndsProjected commands on years basis output ending
    lone_printed (Pinned position policies) (Ok projection) Done due is ends = text_of position policies projection (WroteAll output) due is ends
    lone_printed (Pinned position policies) (Ok projection) WriteFault due is ends =
        (ends.0, text_of position policies projection (AppendsPart output.before output.after) due is ends.1)
    lone_printed (Pinned position policies) (Ok projection) (NoMemory lack) due is ends = ends
    lone_printed (Pinned position policies) (Ok projection) _ due is ends = absurd ends
    lone_printed (Pinned position policies) (Err (Pin why)) ending due is ends = absurd is
    lone_printed (Pinned position policies) (Err (NoValues lack)) (NoMemory other_lack) due is ends = ends
    lone_printed (Pinned position policies) (Err (NoValues lack)) _ due is ends = absurd ends
    lone_printed (PinRefused refusal) answer ending due is ends = absurd (never_refused refusal due)
    lone_printed (Accepted position) answer ending due is ends = absurd is
    lone_printed (Refused refusal) answer ending due is ends = absurd is
    lone_printed (Faulted count) answer ending due is ends = absurd is
    lone_printed (Slice policies) answer ending due is ends = absurd is
    lone_printed Unpinned answer ending due is ends = absurd is
    lone_printed (Floor floor) answer ending due is ends = absurd is
    lone_printed Blank answer ending due is ends = absurd is

-- An office at which one caller turned, to project its policies.
module _ {D W : Type 0} (g : Ghosts D) (w : WatcherGhosts W) (old disk : D) (watchers : W) (on : ℤ) (years turn : ℕ) (basis : List Dated)
    (first closing : Holding (OfficeOpening D W)) (balances : Booking) (reports : List Report) (answer : Result Projection ValueFault)
    (started : HasStartedOffice g old watchers first) (facts : PassFacts IsOfficeHistory closing)
    {outlet : Option MomentRing} (closed : HasClosed g w closing disk balances reports outlet)
    (projected : HasProjected basis on years Now first closing turn answer) where
  due : IsDue started.opening [] projected.pin.1.caller (pin_call Now) projected.pin.1.reply
  due =
      lone_due g w old disk watchers Now first closing balances reports started facts closed projected.pin projected.later projected.grows _ projected.asked
      projected.follows

  answered : AnswersPinned (IsProjectionAt basis on years) (commands_after started.opening []) projected.pin.1.reply answer
  answered =
      lone_answered g w old disk watchers Now first closing balances reports started facts closed projected.pin projected.later projected.grows _ projected.asked
      projected.follows turn projected.opened
      (λ (commands : List Command). AnswersPinned (IsProjectionAt basis on years) commands projected.pin.1.reply answer) projected.place projected.opening
      projected.answered

  -- it can be written
  pub answer_alone : IsDay on → years ≤ 131 → IsLoneProjection answer
  answer_alone day few = lone_projection started.opening projected.pin.1.caller on years basis projected.pin.1.reply answer day few due answered

  -- `project` ends by it
  pub ends_alone : (output : Stream) (ending : Ending) → EndsPrinted answer output ending → EndsProjecting g old disk on years basis output ending
  ends_alone output ending ends =
      ends_projected g old disk on years basis output started.opening.commands ending
      (lone_left g w old disk watchers Now first closing balances reports started facts closed projected.pin projected.later projected.grows _ projected.asked
      projected.follows)
      (subst (λ (cs : List Command). EndsProjected cs on years basis output ending) (append-nil started.opening.commands)
      (lone_printed started.opening projected.pin.1.caller on years basis output projected.pin.1.reply answer ending due answered ends))
