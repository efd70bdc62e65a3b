use Rattle.valuing_modes.proofs.Names.{◌≡◌, ◌<◌, ℕ, List, [], ap, refl, inl, inr, lit<, lit≤, arith, digits, date_of, month_of, days_before_year, days_of_months, day_text, total_text, heading_text}
use Rattle.std.specs.Prelude.{slice_index}
use Rattle.program_endings.proofs.WorkedEndings.{no_fault}
use Rattle.valuing_modes.proofs.worked.valuations_by_hand.Goals as goal

pub returns-clause-positions : goal.returns-clause-positions
returns-clause-positions c = (refl, refl, refl)

pub returns-clause-nobody : goal.returns-clause-nobody
unfolding heading_text total_text day_text date_of month_of days_before_year days_of_months digits
returns-clause-nobody c = (
  record { reached = lit≤ tt; rows = []; each = tt; wrote = refl },
  record { reached = lit≤ tt; rows = []; each = tt; wrote = refl },
  record { reached = lit≤ tt; rows = []; each = tt; wrote = refl },
)

pub returns-clause-ahead : goal.returns-clause-ahead
unfolding digits
returns-clause-ahead c = (
  record { ahead = lit< tt; line = inl refl },
  (λ h. elim h.line [
    | inl e ↦ let no : 51 ≡ 48 = ap (λ (xs : List ℕ). slice_index xs 14) e in omega arith
    | inr part ↦ no_fault part.0
  ]),
  (λ h. let no : 0 < 0 = h.ahead in omega arith),
  (λ h. let no : 0 < 0 = h.ahead in omega arith),
)
