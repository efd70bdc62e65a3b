use Rattle.std.specs.Prelude.{◌≡◌, ℕ, ◌+◌, ◌-◌, ◌≤◌, ◌++◌, max, length, drop, nat_lt, if◌then◌else◌}
use Rattle.rate_table.specs.Rates.{Rates, HoldsAge, rate_at, last_age_of}
use Rattle.select_rates.specs.Select.{Selected, IsSelectAge, select_rates, HasSelectRate, SelectRate}

-- the table of an issue age from the first select age on: at each attained age that it holds it has the rate of that
-- issue age at that duration, and it holds each for which there is such a rate. At a select age it goes from this age to
-- the end of the select period or to the last ultimate age, whichever is later; above the last select age it is the
-- ultimate table.
pub record IsTableOf (table : Selected) (age : ℕ) (given : Rates) : Type 0 where
  pub rates : (duration : ℕ) → HoldsAge given (age + duration)
      → SelectRate table age duration (rate_at given (age + duration))
  pub holds : (duration : ℕ) → HasSelectRate table age duration → HoldsAge given (age + duration)
  pub first : IsSelectAge table age → given.first_age ≡ age
  pub last : IsSelectAge table age
      → last_age_of given ≡ max (age + length (select_rates table age) - 1) (last_age_of table.ultimate)
  pub above : table.first_age + length table.rows ≤ age → given ≡ table.ultimate

-- that table: the select rates of a select age, and after them the ultimate ones of the attained ages
abbrev pub select_table : Selected → ℕ → Rates
select_table table age =
    let select = select_rates table age in
    if nat_lt age (table.first_age + length table.rows)
    then record { first_age = age; rates = select ++ drop (age + length select - table.ultimate.first_age) table.ultimate.rates }
    else table.ultimate
