-- One year of a column.
use Rattle.std.specs.Prelude.{ℕ, ◌+◌, ◌-◌, ◌*◌}
use Rattle.rate_table.specs.Rates.{ONE}
use Rattle.present_value.specs.Rounding.{UNIT, down, up}
use Rattle.present_value.specs.Values.{pair_of}
use Rattle.present_value.specs.declared.pair.Pair.{Pair}
use Rattle.present_value.specs.declared.column.Stream.{Stream}
use Rattle.present_value.specs.declared.column.Stream.TheVariants.{Insurance, Endowment, Annuity}

-- a year's benefits at this rate, before the value is divided by the year, from the next year's value
abbrev pub benefit_dividend : ℕ → ℕ → ℕ
benefit_dividend rate later = 10000 * (rate * UNIT + (ONE - rate) * later)

-- the same for premiums after the first
abbrev pub annuity_dividend : ℕ → ℕ → ℕ
annuity_dividend rate later = 10000 * (ONE - rate) * later

-- a year earlier, at this rate of death in the year
abbrev pub benefits_earlier : (rate year : ℕ) → Pair → Pair
benefits_earlier rate year later = pair_of (down (benefit_dividend rate later.lo) year) (up (benefit_dividend rate later.hi) year)

abbrev pub premiums_earlier : (rate year : ℕ) → Pair → Pair
premiums_earlier rate year later =
    pair_of (UNIT + down (annuity_dividend rate later.lo) year) (UNIT + up (annuity_dividend rate later.hi) year)

abbrev pub earlier : Stream → (rate year : ℕ) → Pair → Pair
earlier Insurance rate year later = benefits_earlier rate year later
earlier Endowment rate year later = benefits_earlier rate year later
earlier Annuity rate year later = premiums_earlier rate year later

-- no value is above this
abbrev pub most : Stream → ℕ
most Insurance = UNIT
most Endowment = UNIT
most Annuity = UNIT * 131

-- what is paid at the end
abbrev pub end_payment : Stream → ℕ
end_payment Insurance = 0
end_payment Endowment = UNIT
end_payment Annuity = 0
