-- Laws of the expected totals.
use Rattle.std.specs.Prelude.{◌≡◌, ℕ, ◌+◌, ◌-◌, ◌*◌, ◌^◌, ◌<◌, ◌≤◌, List, true}
use Rattle.cash_projection.specs.Names.{AllByRecursion, ONE}
use Rattle.std.specs.List.{sum_by, range_with_len}
use Rattle.cash_projection.specs.Survival.{alive, dying}
use Rattle.cash_projection.specs.Prospects.{Prospect, IsSmall, death_due, maturity_due}
use Rattle.cash_projection.specs.Cash.{EnclosesExpected, rounded_year}

-- no more are alive a year later: alive / 10^9 ^ j falls
pub record NeverRiseLaw : Type 0 where
  pub survivors : (rates : ℕ → ℕ) (j : ℕ) → alive rates (j + 1) ≤ alive rates j * ONE
  pub and_dying : (rates : ℕ → ℕ) (j : ℕ) → rates j ≤ ONE → alive rates (j + 1) + dying rates j ≡ alive rates j * ONE

-- the deaths of a policy in all remaining years, over one denominator
abbrev pub deaths_of : Prospect → ℕ → ℕ
deaths_of p left = sum_by (λ j. death_due p j * dying p.rates j * ONE ^ (left - (j + 1))) (range_with_len 0 left)

-- over all remaining years, what is paid for deaths and to survivors adds up to the amount; without a maturity it is
-- less by what the survivors would be paid
pub record AddUpLaw : Type 0 where
  pub matures : (p : Prospect) (left : ℕ) → p.matures ≡ true → p.t + left ≡ p.n → 1 ≤ left → ((j : ℕ) → j < left → p.rates j ≤ ONE)
      → deaths_of p left + maturity_due p (left - 1) * alive p.rates left ≡ p.amount * ONE ^ left
  pub term : (p : Prospect) (left : ℕ) → p.t + left ≡ p.n → ((j : ℕ) → j < left → p.rates j ≤ ONE)
      → deaths_of p left + p.amount * alive p.rates left ≡ p.amount * ONE ^ left

-- in each year the rounded totals enclose the exact ones
abbrev pub EnclosureLaw : Type 0
EnclosureLaw = (ps : List Prospect) (j : ℕ) → AllByRecursion IsSmall ps → j ≤ 131 → EnclosesExpected ps j (rounded_year ps j)
