use Rattle.std.specs.Prelude.{ℕ, ◌-◌, ◌*◌, max}
use Rattle.deficiency_reserve.specs.Names.{Cover, UNIT, ben_bound, ann_bound, low_and_high}

-- both bounds of the minimum reserve of an amount, in the units of amount and premium: those of the ordinary reserve,
-- or, if they are greater, those of the reserve by the gross premium, which is 0 if the premiums are worth more than
-- the benefits
abbrev pub rounded_minimum : Cover → ℕ × ℕ → ℕ → ℕ → ℕ → ℕ × ℕ
rounded_minimum c ordinary amount premium t =
    let by_gross = low_and_high (λ this other. this (amount * ben_bound this c t - premium * ann_bound other c t) UNIT) in
    (max ordinary.0 by_gross.0, max ordinary.1 by_gross.1)
