use Rattle.std.specs.Prelude.{ℕ, ◌-◌, ◌+◌, ◌*◌, min}
use Rattle.crvm_reserve.specs.Names.{Cover, year, death, UNIT, down, up, ben_bound, ann_bound}

-- The rounded premium and reserve per unit of amount, in units of 10^-16, from the rounded values of the benefits and
-- of the premiums. Each is a lower bound if `this` rounds down and `other` rounds up, and an upper bound the other
-- way round: what makes the result greater is rounded in the direction of `this`, and what makes it less in that of
-- `other`.

-- a level premium from year t on: the benefits from then on divided by the premiums from then on
unfoldable pub level_bound : (this other : ℕ → ℕ → ℕ) → Cover → ℕ → ℕ
level_bound this other c t = this (ben_bound this c t * UNIT) (ann_bound other c t)

-- the excess of the level premium from the second year on, at most that of the cap, over the one-year term premium for
-- the first year
unfoldable pub excess_bound : (this other : ℕ → ℕ → ℕ) → Cover → Cover → ℕ
excess_bound this other c cap =
    min (level_bound this other c 1) (level_bound this other cap 0) - other (death c 0 * UNIT) (year c)

-- the modified net premium
unfoldable pub beta_bound : (this other : ℕ → ℕ → ℕ) → Cover → Cover → ℕ
beta_bound this other c cap = this ((ben_bound this c 0 + excess_bound this other c cap) * UNIT) (ann_bound other c 0)

-- the reserve at year t; 0 if the premiums are worth more than the benefits
unfoldable pub reserve_bound : (this other : ℕ → ℕ → ℕ) → Cover → Cover → ℕ → ℕ
reserve_bound this other c cap t = ben_bound this c t - other (beta_bound other this c cap * ann_bound other c t) UNIT

-- the lower and the upper bound
abbrev pub low_and_high : ((this other : ℕ → ℕ → ℕ) → ℕ) → ℕ × ℕ
low_and_high bound = (bound down up, bound up down)

-- the reserve of an amount, in the amount's units
abbrev pub rounded : Cover → Cover → ℕ → ℕ → ℕ × ℕ
rounded c cap amount t = low_and_high (λ this other. this (amount * reserve_bound this other c cap t) UNIT)

-- the same for a paid-up amount, for which no premium is due: the benefits alone
abbrev pub rounded_paid_up : Cover → ℕ → ℕ → ℕ × ℕ
rounded_paid_up c amount t = low_and_high (λ this other. this (amount * ben_bound this c t) UNIT)
