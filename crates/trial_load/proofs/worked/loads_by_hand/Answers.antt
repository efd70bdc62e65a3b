use Rattle.trial_load.proofs.Names.{◌≡◌, ℕ, List, [], ◌∷◌, ap, refl, arith, slice_index}
use Rattle.std.specs.Fmt.{digits}
use Rattle.life_dates.specs.Calendar.{date_of, month_of, days_before_year, days_of_months}
use Rattle.life_dates.specs.DayText.{day_text}
use Rattle.report_text.specs.Block.{total_text, heading_text}
use Rattle.trial_load.proofs.worked.loads_by_hand.Goals as goal

pub returns-clause-lines : goal.returns-clause-lines
unfolding digits
returns-clause-lines c = (refl, refl)

pub returns-clause-day : goal.returns-clause-day
unfolding heading_text total_text day_text date_of month_of days_before_year days_of_months digits
returns-clause-day c = refl

pub returns-clause-refused : goal.returns-clause-refused
returns-clause-refused c = refl

pub returns-clause-written : goal.returns-clause-written
unfolding digits
returns-clause-written c = (
  record { rows = []; each = tt; wrote = refl; found = refl; replies = (tt, refl) },
  (λ h. let no : 48 ≡ 49 = ap (λ (xs : List ℕ). slice_index xs 5) h.wrote in omega arith),
  (λ h. let no : 0 ∷ [] ≡ [] = h.found in cc),
)
