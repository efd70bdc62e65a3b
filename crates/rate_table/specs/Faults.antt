use Rattle.std.specs.Prelude.{◌≡◌, ℕ, ◌+◌, ◌<◌, ◌≤◌, List, length, slice_index}
use Rattle.rate_table.specs.Rates.{Rates, ONE}
use Rattle.rate_table.specs.declared.fault.RatesFault.{RatesFault}
use Rattle.rate_table.specs.declared.fault.RatesFault.TheVariants.{Empty, PastAge130, RateAboveOne}

-- the rate at this place is above 1, and none before it
pub record IsFirstAbove (rates : List ℕ) (place : ℕ) : Type 0 where
  pub within : place < length rates
  pub above : ONE < slice_index rates place
  pub before : (k : ℕ) → k < place → slice_index rates k ≤ ONE

-- the first reason for which rates from an age on are no table
abbrev pub IsFirstFault : Rates → RatesFault → Type 0
IsFirstFault given Empty = length given.rates ≡ 0
IsFirstFault given PastAge130 = (1 ≤ length given.rates) × (131 < given.first_age + length given.rates)
IsFirstFault given (RateAboveOne age) =
    (1 ≤ length given.rates) × (given.first_age + length given.rates ≤ 131)
    × ((place : ℕ) × (age ≡ given.first_age + place) × IsFirstAbove given.rates place)
