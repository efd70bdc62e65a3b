use Rattle.std.specs.Prelude.{ℕ, ◌+◌, ◌-◌, min, true}
use Rattle.rate_table.specs.Rates.{Rates, last_age_of}
use Rattle.rate_table.specs.declared.shape.Shape.{Shape}
use Rattle.present_value.specs.Fractions.{Fraction, whole, plus, less, over, lesser}
use Rattle.present_value.specs.Sums.{Cover, cover_of, year, death, ben, ann}

-- The modified net premium of the Commissioners Reserve Valuation Method, for uniform amounts and uniform
-- premiums (NAIC Standard Valuation Law, Model 820).

-- whole life at the next age, with nineteen premiums, or as many as there are years to the table's end
abbrev pub cap_shape : Rates → ℕ → Shape
cap_shape table age = record {
  age = age + 1;
  n = last_age_of table - age;
  h = min 19 (last_age_of table - age);
  matures = true;
}

abbrev pub cap_of : Rates → ℕ → ℕ → Cover
cap_of table age bp = cover_of table (cap_shape table age) bp

-- (B): the net one-year term premium for the benefits of the first year
unfoldable pub term_premium : Cover → Fraction
term_premium c = record { num = death c 0; den = year c }

-- (A) before its limit: the benefits after the first year divided by the premiums after the first
unfoldable pub renewal_premium : Cover → Fraction
renewal_premium c = over (less (ben c 0) (term_premium c)) (less (ann c 0) (whole 1))

-- the net level premium of a cover
unfoldable pub level_premium : Cover → Fraction
level_premium c = over (ben c 0) (ann c 0)

-- the excess of (A), which is at most the level premium of the cap, over (B)
unfoldable pub excess : Cover → Cover → Fraction
excess c cap = less (lesser (renewal_premium c) (level_premium cap)) (term_premium c)

-- the modified net premium: its value at issue is that of the benefits plus the excess
unfoldable pub beta : Cover → Cover → Fraction
beta c cap = over (plus (ben c 0) (excess c cap)) (ann c 0)
