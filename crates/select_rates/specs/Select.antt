-- Select survival models (Dickson, Hardy and Waters, on the life table with a select period): a life that is selected
-- at issue age x has at duration k the rate of death q_[x]+k. After the select period the rate depends on the attained
-- age x + k alone, and is that of the ultimate table.
use Rattle.std.specs.Prelude.{◌≡◌, ℕ, ◌+◌, ◌-◌, ◌<◌, ◌≤◌, ◌⊎◌, List, [], length, slice_index, slice_index_or, EachIndex}
use Rattle.rate_table.specs.Rates.{Rates, ONE, HoldsAge, rate_at, last_age_of}

-- a select and ultimate table: for each issue age from the first on its select rates, in units of 10^-9, of the
-- durations 0, 1 and so on; and the ultimate table, by attained age
pub record Selected : Type 0 where
  pub first_age : ℕ
  pub rows : List (List ℕ)
  pub ultimate : Rates

-- an issue age that has select rates
abbrev pub IsSelectAge : Selected → ℕ → Type 0
IsSelectAge table age = (table.first_age ≤ age) × (age < table.first_age + length table.rows)

-- the select rates of an issue age, by duration; an age above the last select age has none
abbrev pub select_rates : Selected → ℕ → List ℕ
select_rates table age = slice_index_or table.rows (age - table.first_age) []

-- there is a rate of an issue age at a duration: a select one within the select period, or an ultimate one
abbrev pub HasSelectRate : Selected → ℕ → ℕ → Type 0
HasSelectRate table age duration =
    (duration < length (select_rates table age)) ⊎ HoldsAge table.ultimate (age + duration)

-- this is q_[x]+k: the select rate within the select period, after it the ultimate rate at the attained age
abbrev pub SelectRate : Selected → ℕ → ℕ → ℕ → Type 0
SelectRate table age duration rate =
    HasSelectRate table age duration
    × (rate ≡ slice_index_or (select_rates table age) duration (rate_at table.ultimate (age + duration)))

-- the select rates of an issue age make a table together with the ultimate one: there is at least one select rate,
-- none is above 1 or past age 130, and if the ultimate table goes on after the select period, it has a rate for the
-- age directly after it
pub record IsSelectPeriod (ultimate : Rates) (age : ℕ) (rates : List ℕ) : Type 0 where
  pub some : 1 ≤ length rates
  pub bound : EachIndex rates (λ k. slice_index rates k ≤ ONE)
  pub ages : age + length rates ≤ 131
  pub joined : age + length rates ≤ last_age_of ultimate → ultimate.first_age ≤ age + length rates

-- there is a select age, and the select rates of each make a table with the ultimate one
pub record AreSelected (table : Selected) : Type 0 where
  pub some : 1 ≤ length table.rows
  pub periods : (age : ℕ) → IsSelectAge table age → IsSelectPeriod table.ultimate age (select_rates table age)
