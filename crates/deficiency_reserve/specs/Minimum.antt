use Rattle.std.specs.Prelude.{ℕ, ◌*◌, nat_le, if◌then◌else◌}
use Rattle.deficiency_reserve.specs.Names.{Fraction, less, times, lesser, Cover, ben, ann, beta, reserve}

-- The minimum reserve if the premium that is charged is below the modified net premium (NAIC Standard Valuation Law,
-- Model 820, on minimum reserves when the gross premium is less than the valuation net premium): the reserve is
-- calculated again with the gross premium in place of the net premium, and the greater of the two is the minimum.

-- the minimum reserve at year t per unit of amount: each year is counted to bring in the net premium, but no more
-- than is charged
unfoldable pub minimum : Cover → Cover → ℕ → ℕ → ℕ → Fraction
minimum c cap amount premium t =
    let counted = lesser (beta c cap) (record { num = premium; den = amount }) in
    greater (reserve c cap t) (less (ben c t) (times counted (ann c t)))
  where
    greater : Fraction → Fraction → Fraction
    greater a b = if nat_le (a.num * b.den) (b.num * a.den) then b else a
