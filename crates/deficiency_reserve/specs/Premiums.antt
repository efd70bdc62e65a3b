-- Whether the premium that is charged is below the net premium.
use Rattle.std.specs.Prelude.{ℕ, ◌+◌, ◌*◌, ◌<◌, ◌≤◌, nat_lt, nat_le, if◌then◌else◌}
use Rattle.deficiency_reserve.specs.Names.{Fraction, UNIT}
use Rattle.deficiency_reserve.specs.declared.answer.Adequacy.{Adequacy}
use Rattle.deficiency_reserve.specs.declared.answer.Adequacy.TheVariants.{Short, Enough, Close}

-- what an answer says of a net premium and of the premium that is charged: the premium charged is less than the
-- amount's net premium, or it isn't, or it differs from it by less than one cent
abbrev pub Tells : Adequacy → Fraction → ℕ → ℕ → Type 0
Tells Short net amount premium = premium * net.den < amount * net.num
Tells Enough net amount premium = amount * net.num ≤ premium * net.den
Tells Close net amount premium =
    (premium * net.den < amount * net.num + net.den) × (amount * net.num < premium * net.den + net.den)

-- the answer from the bounds of the net premium
abbrev pub adequacy_by : ℕ → ℕ → ℕ → ℕ → Adequacy
adequacy_by lo hi amount premium =
    if nat_lt (premium * UNIT) (amount * lo) then Short
    else if nat_le (amount * hi) (premium * UNIT) then Enough
    else Close
