-- How `value` ends, by what its parts did
use Rattle.valuing_modes.proofs.Names.{◌≡◌, ℕ, ◌≤◌, ◌<◌, ℤ, List, [], length, take, refl, ap₂, sym, ◌∙◌, subst, inl, inr, Result, Ok, Err, arith, AllZip, AppendsPart, Ghosts, Dated, Command, At, Now, Position, Opening, IsDue, commands_after, opened_on, pin_call, Measure, block_text, IsLeftBy, AnswersPin, IsValuedRow, IsSnapshot, ValueFault, Ending, Done, Ahead, WriteFault, NoMemory, Stream, WroteAll, EndsValuing, IsValuation, position_of}
use Rattle.policy_types.specs.declared.entry.PinRefusal.{PinRefusal}
use Rattle.policy_types.specs.declared.entry.PinRefusal.TheVariants.{Ahead as PastTheEnd, Trimmed, PinsFull}
use Rattle.policy_types.specs.declared.entry.Reply.{Reply}
use Rattle.policy_types.specs.declared.entry.Reply.TheVariants.{Accepted, Refused, Faulted, Pinned, PinRefused, Slice, Unpinned, Floor, Blank}
use Rattle.policy_machine.specs.Book.{book}
use Rattle.snapshot_value.specs.declared.valuation.Valuation.{Valuation}
use Rattle.snapshot_value.specs.declared.valuation.ValueFault.TheVariants.{Pin, NoMemory as NoValues}
use Rattle.program_endings.proofs.BlockSteps.{block_writable}
use Rattle.valuing_modes.specs.inside.Valued.{EndsAnswer, EndsValued, IsLoneAnswer, SaysAhead}

-- an office was opened, and its values were written
pub ends_valued : {D : Type 0} (g : Ghosts D) (old disk : D) (on : ℤ) (at : At) (measure : Measure) (basis : List Dated) (output : Stream)
    (commands : List Command) (ending : Ending) → IsLeftBy g old disk (opened_on commands (g.faults old)) []
    → EndsValued commands on at measure basis output ending → EndsValuing g old disk on at measure basis output ending
ends_valued g old disk on at measure basis output commands Done left ends =
    inl (record { commands = commands; so = ends; disk = left })
ends_valued g old disk on at measure basis output commands WriteFault left ends =
    inl (ends.0, record { commands = commands; so = ends.1; disk = left })
ends_valued g old disk on at measure basis output commands Ahead left ends =
    inr (refl, record { commands = commands; so = ends; disk = left })
ends_valued g old disk on at measure basis output commands (NoMemory lack) left ends = inl ((ends, left.faults), left.alone tt)
ends_valued g old disk on at measure basis output commands _ left ends = absurd ends

-- The answer of an office at which nobody turned before.
module _ (opening : Opening) (caller : ℕ) (on : ℤ) (measure : Measure) (basis : List Dated) where
  abbrev commands : List Command
  commands = commands_after opening []

  -- a pin is refused only if there are fewer commands
  refused_ahead : (at : At) (refusal : PinRefusal) → IsDue opening [] caller (pin_call at) (PinRefused refusal) → IsLoneAnswer (Err (Pin refusal))
  refused_ahead at (PastTheEnd count) due = tt
  refused_ahead Now (Trimmed floor) due = absurd due
  refused_ahead (Position p) (Trimmed floor) due = absurd (let below : p < 0 = due.1 in omega (arith, below))
  refused_ahead Now PinsFull due = absurd (let full : 16 ≤ 0 = due in omega (arith, full))
  refused_ahead (Position p) PinsFull due = absurd (let full : 16 ≤ 0 = due.2 in omega (arith, full))

  pub lone_answer : (at : At) (reply : Reply) (answer : Result Valuation ValueFault) → IsDue opening [] caller (pin_call at) reply
      → AnswersPin commands basis on measure reply answer → IsLoneAnswer answer
  lone_answer at (Pinned position policies) (Ok valuation) due is = block_writable commands basis on measure position valuation is
  lone_answer at (Pinned position policies) (Err (NoValues lack)) due is = tt
  lone_answer at (Pinned position policies) (Err (Pin why)) due is = absurd is
  lone_answer at (PinRefused refusal) (Ok valuation) due is = absurd is
  lone_answer at (PinRefused refusal) (Err (NoValues lack)) due is = absurd is
  lone_answer at (PinRefused refusal) (Err (Pin why)) due is =
      subst (λ (r : PinRefusal). IsLoneAnswer (Err (Pin r))) (sym is) (refused_ahead at refusal due)
  lone_answer at (Accepted position) answer due is = absurd is
  lone_answer at (Refused refusal) answer due is = absurd is
  lone_answer at (Faulted count) answer due is = absurd is
  lone_answer at (Slice policies) answer due is = absurd is
  lone_answer at Unpinned answer due is = absurd is
  lone_answer at (Floor floor) answer due is = absurd is
  lone_answer at Blank answer due is = absurd is

  module _ (output : Stream) where
    pinned_place : (at : At) (position policies : ℕ) → IsDue opening [] caller (pin_call at) (Pinned position policies)
        → (position ≡ position_of at (length commands)) × (position_of at (length commands) ≤ length commands)
    pinned_place Now position policies due = (due.1, omega arith)
    pinned_place (Position p) position policies due = (due.3, due.0)

    valuation_of : (at : At) (position policies : ℕ) (valuation : Valuation) (Wrote : List ℕ → Type 0)
        → IsDue opening [] caller (pin_call at) (Pinned position policies) → IsSnapshot commands basis on measure position valuation
        → Wrote (block_text 0 on valuation.position valuation.measure valuation.rows) → IsValuation commands on at measure basis Wrote
    valuation_of at position policies valuation Wrote due snapshot wrote =
        let place = pinned_place at position policies due in
        record {
          reached = place.1;
          rows = valuation.rows;
          each = subst (λ p. AllZip (IsValuedRow basis on measure) (book (take p commands)) valuation.rows) place.0 snapshot.rows.each;
          wrote = subst Wrote (ap₂ (λ p m. block_text 0 on p m valuation.rows) (snapshot.pinned ∙ place.0) snapshot.measured) wrote;
        }

    ends_ahead : (at : At) (count : ℕ) (ending : Ending) → IsDue opening [] caller (pin_call at) (PinRefused (PastTheEnd count))
        → SaysAhead count output ending → EndsValued commands on at measure basis output ending
    ends_ahead Now count ending due says = absurd due
    ends_ahead (Position p) count Ahead due says = record { ahead = due.0; line = rw (sym due.1) says }
    ends_ahead (Position p) count (NoMemory lack) due says = says
    ends_ahead (Position p) count _ due says = absurd says

    ends_refused_pin : (at : At) (refusal : PinRefusal) (ending : Ending) → IsDue opening [] caller (pin_call at) (PinRefused refusal)
        → EndsAnswer on (Err (Pin refusal)) output ending → EndsValued commands on at measure basis output ending
    ends_refused_pin at (PastTheEnd count) ending due ends = ends_ahead at count ending due ends
    ends_refused_pin at (Trimmed floor) ending due ends = absurd ends
    ends_refused_pin at PinsFull ending due ends = absurd ends

    pub lone_ends : (at : At) (reply : Reply) (answer : Result Valuation ValueFault) (ending : Ending) → IsDue opening [] caller (pin_call at) reply
        → AnswersPin commands basis on measure reply answer → EndsAnswer on answer output ending → EndsValued commands on at measure basis output ending
    lone_ends at (Pinned position policies) (Ok valuation) Done due is ends = valuation_of at position policies valuation (WroteAll output) due is ends
    lone_ends at (Pinned position policies) (Ok valuation) WriteFault due is ends =
        (ends.0, valuation_of at position policies valuation (AppendsPart output.before output.after) due is ends.1)
    lone_ends at (Pinned position policies) (Ok valuation) (NoMemory lack) due is ends = ends
    lone_ends at (Pinned position policies) (Ok valuation) _ due is ends = absurd ends
    lone_ends at (Pinned position policies) (Err (Pin why)) ending due is ends = absurd is
    lone_ends at (Pinned position policies) (Err (NoValues lack)) (NoMemory other_lack) due is ends = ends
    lone_ends at (Pinned position policies) (Err (NoValues lack)) _ due is ends = absurd ends
    lone_ends at (PinRefused refusal) (Ok valuation) ending due is ends = absurd is
    lone_ends at (PinRefused refusal) (Err (Pin why)) ending due is ends =
        ends_refused_pin at refusal ending due (subst (λ (r : PinRefusal). EndsAnswer on (Err (Pin r)) output ending) is ends)
    lone_ends at (PinRefused refusal) (Err (NoValues lack)) ending due is ends = absurd is
    lone_ends at (Accepted position) answer ending due is ends = absurd is
    lone_ends at (Refused refusal) answer ending due is ends = absurd is
    lone_ends at (Faulted count) answer ending due is ends = absurd is
    lone_ends at (Slice policies) answer ending due is ends = absurd is
    lone_ends at Unpinned answer ending due is ends = absurd is
    lone_ends at (Floor floor) answer ending due is ends = absurd is
    lone_ends at Blank answer ending due is ends = absurd is
