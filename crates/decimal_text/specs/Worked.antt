-- Worked rates, in units of 10^-9
use Rattle.std.specs.Prelude.{ℕ, [], codes}
use Rattle.decimal_text.specs.Rate.{IsRate}

-- digits with a point before, among or after them
abbrev pub PlainRates : Type 0
PlainRates = IsRate (codes "0.00042") 420000 × IsRate (codes "1") 1000000000 × IsRate (codes ".5") 500000000
    × IsRate (codes "1.") 1000000000 × IsRate (codes "0") 0

-- powers of ten, raised and lowered
abbrev pub ScaledRates : Type 0
ScaledRates = IsRate (codes "7.5E-05") 75000 × IsRate (codes "0.1e1") 1000000000 × IsRate (codes "0.02E+1") 200000000

-- without a digit there is no rate
abbrev pub NoRates : Type 0
NoRates = (rate : ℕ) → IsRate [] rate → ⊥
