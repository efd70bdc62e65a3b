-- The select period of the select age at a place.
use Rattle.select_rates.proofs.Names.{◌≡◌, ℕ, ◌+◌, ◌-◌, ◌<◌, [], List, length, arith, slice_index_or, Rates, Selected, IsSelectPeriod, AreSelected}

moved : (ultimate : Rates) (age : ℕ) (rows : List (List ℕ)) (i j : ℕ) → i ≡ j
    → IsSelectPeriod ultimate age (slice_index_or rows i []) → IsSelectPeriod ultimate age (slice_index_or rows j [])
moved ultimate age rows i j same h = rw same at h

pub period_at : (table : Selected) (i : ℕ) → AreSelected table → i < length table.rows
    → IsSelectPeriod table.ultimate (table.first_age + i) (slice_index_or table.rows i [])
period_at table i selected h = moved table.ultimate (table.first_age + i) table.rows (table.first_age + i - table.first_age) i
    (omega arith) (selected.periods (table.first_age + i) (omega arith, omega arith))

pub age_at : (table : Selected) (i : ℕ) → AreSelected table → i < length table.rows → table.first_age + i < 131
age_at table i selected h = let period = period_at table i selected h in let some = period.some in let ages = period.ages in omega arith
