-- What one policy may still pay and be paid.
use Rattle.std.specs.Prelude.{ℕ, ◌+◌, ◌<◌, ◌≤◌, Bool, nat_le, nat_lt, nat_eq, if◌then◌else◌}
use Rattle.rate_table.specs.Rates.{ONE}

-- in the current policy year t of n, with premiums in the years before h, so many of which were paid: the rate of
-- death in the j-th year from the current one, in units of 10^-9; the premium and the amount, in cents; whether a
-- survivor of all years is paid; and the number of words that say why it has no value, one or none
pub record Prospect : Type 0 where
  pub rates : ℕ → ℕ
  pub t : ℕ
  pub n : ℕ
  pub h : ℕ
  pub paid : ℕ
  pub premium : ℕ
  pub amount : ℕ
  pub matures : Bool
  pub words : ℕ

-- the cents, in each year from `from` on and before `to`
abbrev pub due : (from to cents year : ℕ) → ℕ
due from to cents year = if nat_le from year then (if nat_lt year to then cents else 0) else 0

-- the premium that falls due at the start of the j-th year from the current one
abbrev pub premium_due : Prospect → ℕ → ℕ
premium_due p j = due p.paid p.h p.premium (p.t + j)

-- what a death in that year is paid
abbrev pub death_due : Prospect → ℕ → ℕ
death_due p j = due 0 p.n p.amount (p.t + j)

-- what a survivor of that year is paid at its end
abbrev pub maturity_due : Prospect → ℕ → ℕ
maturity_due p j = if p.matures then (if nat_eq (p.t + j + 1) p.n then p.amount else 0) else 0

-- a prospect of a policy within the limits of the office
pub record IsSmall (p : Prospect) : Type 0 where
  pub premium : p.premium ≤ 10000000000
  pub amount : p.amount ≤ 10000000000
  pub covered : p.h ≤ p.n
  pub rates : (j : ℕ) → p.t + j < p.n → p.rates j ≤ ONE
  pub years : p.n ≤ 131
  pub words : p.words ≤ 1
