-- The text of a projection: a line that says what was projected, a line for each year, and the policies with a word.
use Rattle.std.specs.Prelude.{ℕ, ◌≤◌, List, [], ◌∷◌, ◌++◌, codes, decimal, length}
use Rattle.cash_projection.specs.Names.{flat_map, enumerate_from}
use Rattle.life_dates.specs.DayText.{day_text}
use Rattle.money_core.specs.CentsText.{cents_text}
use Rattle.text_lines.specs.Lines.{line_of}
use Rattle.cash_projection.specs.declared.years.Year.{Year}
use Rattle.cash_projection.specs.declared.printing.Projection.{Projection}

-- the j-th year from the current one, and the bounds of its premiums, deaths and maturities
unfoldable pub year_text : ℕ → Year → List ℕ
year_text j year =
    line_of (codes "year")
    (decimal j ∷ cents_text year.premium.lo ∷ cents_text year.premium.hi ∷ cents_text year.death.lo ∷ cents_text year.death.hi
    ∷ cents_text year.maturity.lo ∷ cents_text year.maturity.hi ∷ [])

-- the day, the position of the journal, the number of policies, and of years; the years; and how many policies have a word
abbrev pub projection_text : Projection → List ℕ
projection_text p =
    line_of (codes "project") (day_text p.on ∷ decimal p.position ∷ decimal p.policies ∷ decimal (length p.years) ∷ [])
    ++ flat_map (λ (year : ℕ × Year). year_text year.0 year.1) (enumerate_from 0 p.years)
    ++ line_of (codes "unvalued") (decimal p.unvalued ∷ [])

-- no bound is above 10^17 cents
pub record IsTellable (year : Year) : Type 0 where
  pub premium_lo : year.premium.lo ≤ 100000000000000000
  pub premium_hi : year.premium.hi ≤ 100000000000000000
  pub death_lo : year.death.lo ≤ 100000000000000000
  pub death_hi : year.death.hi ≤ 100000000000000000
  pub maturity_lo : year.maturity.lo ≤ 100000000000000000
  pub maturity_hi : year.maturity.hi ≤ 100000000000000000
