use Rattle.std.specs.Prelude.{ℕ, zero, suc, ◌+◌, ◌-◌, ◌*◌, nat_lt, if◌then◌else◌}
use Rattle.rate_table.specs.Rates.{ONE}
use Rattle.present_value.specs.Sums.{Cover, year}
use Rattle.present_value.specs.Rounding.{UNIT, down, up}

-- The rounded values at year t, from the end of the cover back: each year's from the next year's. Every quotient is
-- rounded down for a lower value and up for an upper one, in units of 10^-16.

-- the benefits from year t on
unfoldable pub ben_bound : (ℕ → ℕ → ℕ) → Cover → ℕ → ℕ
ben_bound quotient c t = with_left (c.n - t)
  where
    with_left : ℕ → ℕ
    with_left zero = if c.matures then UNIT else 0
    with_left (suc left) =
        let rate = c.rates (c.n - suc left) in
        quotient (10000 * (rate * UNIT + (ONE - rate) * with_left left)) (year c)

-- the premiums from year t on
unfoldable pub ann_bound : (ℕ → ℕ → ℕ) → Cover → ℕ → ℕ
ann_bound quotient c t = with_left (c.n - t)
  where
    with_left : ℕ → ℕ
    with_left zero = 0
    with_left (suc left) =
        if nat_lt (c.n - suc left) c.h
        then UNIT + quotient (10000 * (ONE - c.rates (c.n - suc left)) * with_left left) (year c)
        else 0

-- the lower and the upper values
abbrev pub ben_lo : Cover → ℕ → ℕ
ben_lo c t = ben_bound down c t

abbrev pub ben_hi : Cover → ℕ → ℕ
ben_hi c t = ben_bound up c t

abbrev pub ann_lo : Cover → ℕ → ℕ
ann_lo c t = ann_bound down c t

abbrev pub ann_hi : Cover → ℕ → ℕ
ann_hi c t = ann_bound up c t
