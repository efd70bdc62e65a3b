use Rattle.std.specs.Prelude.{◌≡◌, ℕ, ◌+◌, ◌-◌, ◌<◌, ◌≤◌, List, length, slice_index, EachIndex}

-- a mortality table: the rate of death within a year, in units of 10^-9, for each age from the first on
pub record Rates : Type 0 where
  pub first_age : ℕ
  pub rates : List ℕ

-- certain death, as a rate
abbrev pub ONE : ℕ
ONE = 1000000000

-- a list of rates is a table if it isn't empty, no age is above 130, and no rate is above 1
pub record AreRates (table : Rates) : Type 0 where
  pub some : 1 ≤ length table.rates
  pub ages : table.first_age + length table.rates ≤ 131
  pub bound : EachIndex table.rates (λ k. slice_index table.rates k ≤ ONE)

-- the table has a rate for this age
abbrev pub HoldsAge : Rates → ℕ → Type 0
HoldsAge table age = (table.first_age ≤ age) × (age < table.first_age + length table.rates)

-- the rate of an age that the table holds
abbrev pub rate_at : Rates → ℕ → ℕ
rate_at table age = slice_index table.rates (age - table.first_age)

abbrev pub last_age_of : Rates → ℕ
last_age_of table = table.first_age + length table.rates - 1

-- the rates of the ages from this one to the table's last
pub record AreRatesFrom (table : Rates) (age : ℕ) (rates : List ℕ) : Type 0 where
  pub count : age + length rates ≡ table.first_age + length table.rates
  pub each : EachIndex rates (λ k. slice_index rates k ≡ rate_at table (age + k))
