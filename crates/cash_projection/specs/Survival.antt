-- How many of a large number of people of the same age are still alive, year by year.
use Rattle.std.specs.Prelude.{ℕ, zero, suc, ◌-◌, ◌*◌}
use Rattle.cash_projection.specs.Names.{ONE, UNIT}

-- those alive after so many years, by the rate of death in each year: the product of 10^9 less each rate, which is
-- their part of the whole times 10^9 to the power of the years
unfoldable pub alive : (ℕ → ℕ) → ℕ → ℕ
alive rates zero = 1
alive rates (suc j) = alive rates j * (ONE - rates j)

-- the same part in units of 10^-16, each year's computed from the year before, rounded down or up
unfoldable pub alive_by : (ℕ → ℕ → ℕ) → (ℕ → ℕ) → ℕ → ℕ
alive_by quotient rates zero = UNIT
alive_by quotient rates (suc j) = quotient (alive_by quotient rates j * (ONE - rates j)) ONE

-- those who die in a year
abbrev pub dying : (ℕ → ℕ) → ℕ → ℕ
dying rates j = alive rates j * rates j

abbrev pub dying_by : (ℕ → ℕ → ℕ) → (ℕ → ℕ) → ℕ → ℕ
dying_by quotient rates j = quotient (alive_by quotient rates j * rates j) ONE
