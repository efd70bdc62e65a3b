-- What a list of policies is expected to pay and to be paid, by year from the current one, without interest and lapses.
use Rattle.std.specs.Prelude.{ℕ, ◌+◌, ◌*◌, ◌^◌, ◌≤◌, List, length}
use Rattle.cash_projection.specs.Names.{sum_by, ONE, UNIT, down, up, Pair, Fraction, Between}
use Rattle.cash_projection.specs.Survival.{alive, alive_by}
use Rattle.cash_projection.specs.Prospects.{Prospect, premium_due, death_due, maturity_due}
use Rattle.cash_projection.specs.declared.years.Year.{Year}

-- the totals of the j-th year: the lower parts, in 10^-16 of a cent, are added and rounded down to cents, the upper
-- parts are added and rounded up
abbrev pub rounded_year : List Prospect → ℕ → Year
rounded_year ps j = record {
  premium = rounded_pair (λ quotient p. premium_due p j * alive_by quotient p.rates j);
  death = rounded_pair (λ quotient p. death_due p j * quotient (alive_by quotient p.rates j * p.rates j) ONE);
  maturity = rounded_pair (λ quotient p. maturity_due p j * alive_by quotient p.rates (j + 1));
}
  where
    rounded_pair : ((ℕ → ℕ → ℕ) → Prospect → ℕ) → Pair
    rounded_pair part = record { lo = down (sum_by (part down) ps) UNIT; hi = up (sum_by (part up) ps) UNIT }

-- a pair encloses the exact total, and its bounds differ by at most two cents, plus one cent for each thousand
-- policies
pub record IsCash (count : ℕ) (exact : Fraction) (pair : Pair) : Type 0 where
  pub between : Between pair.lo pair.hi 1 exact
  pub narrow : 1000 * pair.hi ≤ 1000 * pair.lo + (2000 + count)
  pub most : pair.hi ≤ 10000000000 * count

-- and so does each pair of the j-th year, for those who pay, die, and are alive at its end
pub record EnclosesExpected (ps : List Prospect) (j : ℕ) (year : Year) : Type 0 where
  pub premium : IsCash (length ps)
      (record { num = sum_by (λ (p : Prospect). premium_due p j * alive p.rates j) ps; den = ONE ^ j }) year.premium
  pub death : IsCash (length ps)
      (record { num = sum_by (λ (p : Prospect). death_due p j * (alive p.rates j * p.rates j)) ps; den = ONE ^ (j + 1) }) year.death
  pub maturity : IsCash (length ps)
      (record { num = sum_by (λ (p : Prospect). maturity_due p j * alive p.rates (j + 1)) ps; den = ONE ^ (j + 1) }) year.maturity
