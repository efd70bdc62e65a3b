-- A valuation: the rows of the policies at a pinned position, whatever other callers do between its reads
use Rattle.std.specs.Prelude.{◌≡◌, ℕ, ◌≤◌, ℤ, List, ◌∷◌, length, take, All, Some, Result}
use Rattle.snapshot_value.specs.Names.{AllZip, Dated, most_commands, Policy, At, commands_after, AnswersLine, Placed, most_worth, IsValuedRow, IsWithinAmount, Measure, Row, Holding, OfficeOpening, Command, Reply, book}
use Rattle.policy_types.specs.declared.script.Line.TheVariants.{Value}
use Rattle.snapshot_value.specs.Growing.{Grows}
use Rattle.snapshot_value.specs.Reading.{AnswersPinned}
pub use Rattle.snapshot_value.specs.Reading.{dry_pins, most_turns}
use Rattle.snapshot_value.specs.declared.valuation.Valuation.{Valuation}
use Rattle.snapshot_value.specs.declared.valuation.ValueFault.{ValueFault}

-- the most that a policy may insure, in cents
abbrev pub most_amount : ℕ
most_amount = 10000000000

-- the rows of the policies, one for each and in their order; there are no more than there may be policies, and no
-- bound is above what a policy may insure, or, for a mean reserve, above twice that
pub record AreValuedRows (basis : List Dated) (on : ℤ) (measure : Measure) (policies : List Policy) (rows : List Row) : Type 0 where
  pub each : AllZip (IsValuedRow basis on measure) policies rows
  pub few : length rows ≤ most_commands
  pub within : All (λ (row : Row). IsWithinAmount (most_worth measure most_amount) row.worth) rows

-- the position was pinned, and the rows are those of the policies there
pub record IsValuationAt (basis : List Dated) (on : ℤ) (measure : Measure) (position : ℕ) (policies : List Policy) (valuation : Valuation)
    : Type 0 where
  pub pinned : valuation.position ≡ position
  pub day : valuation.on ≡ on
  pub measured : valuation.measure ≡ measure
  pub rows : AreValuedRows basis on measure policies valuation.rows

-- they are the policies that the first so many commands leave
abbrev pub IsSnapshot : List Command → List Dated → ℤ → Measure → ℕ → Valuation → Type 0
IsSnapshot commands basis on measure position valuation =
    IsValuationAt basis on measure position (book (take position commands)) valuation

-- what is returned after the pin's reply: its own refusal and no other; or, if it was pinned after these commands,
-- the valuation, or that memory was refused
abbrev pub AnswersPin : List Command → List Dated → ℤ → Measure → Reply → Result Valuation ValueFault → Type 0
AnswersPin commands basis on measure reply answer = AnswersPinned (IsValuationAt basis on measure) commands reply answer

-- A caller's valuation. Its turns are the pin's, then those that read its policies and the one that gives it up. They
-- answer a script's line that asks for this valuation, and what is returned is of the position that was pinned.
pub record HasValued {D W : Type 0} (basis : List Dated) (on : ℤ) (measure : Measure) (at : At) (workers : ℕ)
    (old new : Holding (OfficeOpening D W)) (turn : ℕ) (answer : Result Valuation ValueFault) : Type 0 where
  pub pin : Placed
  pub later : List Placed
  pub grows : Grows old new (pin ∷ later)
  pub few : length (pin ∷ later) ≤ most_turns
  pub place : pin.0 ≡ turn
  pub answers : AnswersLine (dry_pins turn answer) (Value on at workers) (pin ∷ later)
  pub opened : OfficeOpening D W
  pub opening : new.opening ≡ Some opened
  pub answered : AnswersPin (commands_after opened.opening (take turn new.seen)) basis on measure pin.1.reply answer
