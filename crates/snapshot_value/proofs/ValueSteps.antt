-- A valuation, by what is made of the policies at a pinned position
use Rattle.snapshot_value.proofs.Names.{◌≡◌, ℕ, ◌≤◌, ℤ, List, [], length, Result, subst, sym, arith, Dated, most_commands, Policy, Measure, Row, Holding, OfficeOpening, AreSmallRows, HasMade}
use Rattle.policy_types.specs.declared.entry.At.{At}
use Rattle.policy_value.specs.Measures.{most_worth}
use Rattle.policy_value.specs.Rows.{IsWithinAmount}
use Rattle.std.proofs.lemmas.List.Elements.{All-from_recursion}
use Rattle.snapshot_value.specs.Reading.{HasMadeOfBook}
use Rattle.snapshot_value.specs.Valuing.{AreValuedRows, HasValued, IsValuationAt, most_amount}
use Rattle.snapshot_value.specs.declared.valuation.Valuation.{Valuation}
use Rattle.snapshot_value.specs.declared.valuation.ValueFault.{ValueFault}
use Rattle.snapshot_value.specs.declared.worksheet.Worksheet.{Worksheet}
use Rattle.snapshot_value.proofs.RowSteps.{rows_length}
use Rattle.snapshot_value.proofs.SheetSteps.{made_all}

module _ (basis : List Dated) (on : ℤ) (measure : Measure) where
  valued_rows : (policies : List Policy) (rows : List Row) → length policies ≤ most_commands → AreSmallRows basis on measure policies rows
      → AreValuedRows basis on measure policies rows
  valued_rows policies rows few are = record {
    each = are.each;
    few = omega (arith, rows_length basis on measure policies rows are, few);
    within = All-from_recursion (λ (row : Row). IsWithinAmount (most_worth measure most_amount) row.worth) rows are.within;
  }

  -- all policies that were read have their rows
  pub valuation_at : (position : ℕ) (policies : List Policy) (sheet : Worksheet) (valuation : Valuation) → length policies ≤ most_commands
      → HasMade basis on measure policies sheet → sheet.read.items ≡ [] → valuation.position ≡ position → valuation.on ≡ on
      → valuation.measure ≡ measure → valuation.rows ≡ sheet.rows.items → IsValuationAt basis on measure position policies valuation
  valuation_at position policies sheet valuation few made unread pinned day measured rows = record {
    pinned = pinned;
    day = day;
    measured = measured;
    rows =
        subst (AreValuedRows basis on measure policies) (sym rows)
        (valued_rows policies sheet.rows.items few (made_all basis on measure policies sheet made unread));
  }

  -- what was made of the policies answers the script's line
  pub valued_so : {D W : Type 0} (at : At) (workers turn : ℕ) (old new : Holding (OfficeOpening D W)) (answer : Result Valuation ValueFault)
      → HasMadeOfBook (IsValuationAt basis on measure) at old new turn answer → HasValued basis on measure at workers old new turn answer
  valued_so at workers turn old new answer made = record {
    pin = made.pin;
    later = made.later;
    grows = made.grows;
    few = made.few;
    place = made.place;
    answers = (made.asked, made.follows);
    opened = made.opened;
    opening = made.opening;
    answered = made.answered;
  }
