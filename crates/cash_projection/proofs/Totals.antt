-- The totals of policies enclose the exact ones.
use Rattle.cash_projection.proofs.Names.{◌≡◌, ℕ, ◌+◌, ◌*◌, ◌^◌, ◌<◌, ◌≤◌, inl, inr, subst, arith, List, [], ◌∷◌, length, lit<, one-mul, lt_of_mul-lt-mul_right, AllByRecursion, ONE, UNIT, down, up, pair_of, alive, alive_by, dying, dying_by, Prospect, IsSmall, premium_due, death_due, maturity_due, sum_by, premium_by, death_by, maturity_by, rounded_year, IsCash, EnclosesExpected}
use Rattle.std.proofs.Math.Nat.{mul-le-mul_left, mul-le-mul, le_trans}
use Rattle.std.proofs.lemmas.List.Sums.{sum_by-cons}
use Rattle.present_value.specs.Fractions.{Between}
use Rattle.present_value.proofs.Fractions.{scaled-between}
use Rattle.present_value.proofs.Quotients.{lt-down, up-lt, up-le}
use Rattle.cash_projection.specs.inside.Parts.{MOST_PART}
use Rattle.cash_projection.proofs.Survivors.{power_pos, alive_above, alive_below, alive_near, alive_hi_most, dying_above, dying_below, dying_near, dying_hi_most}
use Rattle.cash_projection.proofs.Dues.{due_cases, due_most, maturity_most}

-- how far the bounds of one policy's part may differ, and how far those of several policies
abbrev pub APART : ℕ
APART = 1320000000000

-- bounds of a part, in units, of an exact one over a denominator, of so many policies
pub record IsPart (count exact den lo hi : ℕ) : Type 0 where
  pub above : lo * den ≤ UNIT * exact
  pub below : UNIT * exact ≤ hi * den
  pub near : hi ≤ lo + count * APART
  pub most : hi ≤ count * MOST_PART

no_part : (den : ℕ) → IsPart 0 0 den 0 0
no_part den = record { above = omega arith; below = omega arith; near = omega arith; most = omega arith }

both_parts : (m n e f den a b c d : ℕ) → IsPart m e den a b → IsPart n f den c d → IsPart (m + n) (e + f) den (a + c) (b + d)
both_parts m n e f den a b c d p q = record {
  above = omega (arith, p.above, q.above);
  below = omega (arith, p.below, q.below);
  near = omega (arith, p.near, q.near);
  most = omega (arith, p.most, q.most);
}

-- cents times bounds in units that differ by at most so many
scaled_part : (cents exact den lo hi k : ℕ) → cents ≤ 10000000000 → lo * den ≤ UNIT * exact → UNIT * exact ≤ hi * den → hi ≤ lo + k → k ≤ 132 → hi ≤ UNIT
    → IsPart 1 (cents * exact) den (cents * lo) (cents * hi)
scaled_part cents exact den lo hi k small above below near few most =
    let a = mul-le-mul_left cents above in
    let b = mul-le-mul_left cents below in
    let n = mul-le-mul_left cents near in
    let s : cents * k ≤ 10000000000 * 132 = mul-le-mul small few in
    let m : cents * hi ≤ 10000000000 * UNIT = mul-le-mul small most in
    record { above = omega arith; below = omega arith; near = omega arith; most = omega arith }

-- nothing
zero_part : (cents exact den lo hi : ℕ) → cents ≡ 0 → IsPart 1 (cents * exact) den (cents * lo) (cents * hi)
zero_part cents exact den lo hi none = rw none (record { above = omega arith; below = omega arith; near = omega arith; most = omega arith })

premium_most : (p : Prospect) (j : ℕ) → IsSmall p → premium_due p j ≤ 10000000000
premium_most p j small = le_trans (due_most p.paid p.h p.premium (p.t + j)) small.premium

pub premium_part : (p : Prospect) (j : ℕ) → IsSmall p → j ≤ 131
    → IsPart 1 (premium_due p j * alive p.rates j) (ONE ^ j) (premium_by down j p) (premium_by up j p)
premium_part p j small year =
    scaled_part (premium_due p j) (alive p.rates j) (ONE ^ j) (alive_by down p.rates j) (alive_by up p.rates j) j
    (premium_most p j small) (alive_above p.rates j) (alive_below p.rates j) (alive_near p.rates j) (omega arith) (alive_hi_most p.rates j)

pub death_part : (p : Prospect) (j : ℕ) → IsSmall p → j ≤ 131
    → IsPart 1 (death_due p j * dying p.rates j) (ONE ^ (j + 1)) (death_by down j p) (death_by up j p)
death_part p j small year = elim (due_cases 0 p.n p.amount (p.t + j)) [
  | inl a ↦
      let rate = small.rates j a.1 in
      let most : death_due p j ≤ 10000000000 = le_trans (due_most 0 p.n p.amount (p.t + j)) small.amount in
      scaled_part (death_due p j) (dying p.rates j) (ONE ^ (j + 1)) (dying_by down p.rates j) (dying_by up p.rates j) (j + 1)
      most (dying_above p.rates j) (dying_below p.rates j) (dying_near p.rates j rate) (omega arith) (dying_hi_most p.rates j rate)
  | inr a ↦ zero_part (death_due p j) (dying p.rates j) (ONE ^ (j + 1)) (dying_by down p.rates j) (dying_by up p.rates j) a.1
]

pub maturity_part : (p : Prospect) (j : ℕ) → IsSmall p → j ≤ 131
    → IsPart 1 (maturity_due p j * alive p.rates (j + 1)) (ONE ^ (j + 1)) (maturity_by down j p) (maturity_by up j p)
maturity_part p j small year =
    scaled_part (maturity_due p j) (alive p.rates (j + 1)) (ONE ^ (j + 1)) (alive_by down p.rates (j + 1)) (alive_by up p.rates (j + 1)) (j + 1)
    (le_trans (maturity_most p j) small.amount) (alive_above p.rates (j + 1)) (alive_below p.rates (j + 1)) (alive_near p.rates (j + 1)) (omega arith)
    (alive_hi_most p.rates (j + 1))

-- the same for a list
pub list_part : (exact lo hi : Prospect → ℕ) (den : ℕ) (ps : List Prospect) → AllByRecursion IsSmall ps
    → ((p : Prospect) → IsSmall p → IsPart 1 (exact p) den (lo p) (hi p))
    → IsPart (length ps) (sum_by exact ps) den (sum_by lo ps) (sum_by hi ps)
list_part exact lo hi den [] small each = no_part den
list_part exact lo hi den (p ∷ ps) small each =
    rw (sum_by-cons exact p ps, sum_by-cons lo p ps, sum_by-cons hi p ps) (subst (λ n. IsPart n (exact p + sum_by exact ps) den (lo p + sum_by lo ps) (hi p + sum_by hi ps)) (omega arith)
    (both_parts 1 (length ps) (exact p) (sum_by exact ps) den (lo p) (hi p) (sum_by lo ps) (sum_by hi ps) (each p small.0)
    (list_part exact lo hi den ps small.1 each)))

-- in cents
narrow_pair : (count lo hi : ℕ) → hi ≤ lo + count * APART → 1000 * up hi UNIT ≤ 1000 * down lo UNIT + (2000 + count)
narrow_pair count lo hi near =
    let low = lt-down lo UNIT (lit< tt) in
    let high = up-lt hi UNIT (lit< tt) in
    let below : (1000 * up hi UNIT) * UNIT < (1000 * down lo UNIT + (2000 + count) + 1) * UNIT = omega arith in
    let bound : 1000 * up hi UNIT < 1000 * down lo UNIT + (2000 + count) + 1 = lt_of_mul-lt-mul_right UNIT below in
    omega arith

pub cash_of : (count exact den lo hi : ℕ) → 0 < den → IsPart count exact den lo hi
    → IsCash count (record { num = exact; den = den }) (pair_of (down lo UNIT) (up hi UNIT))
cash_of count exact den lo hi proper part =
    let between : Between lo hi UNIT (record { num = exact; den = den }) = record { proper = proper; above = part.above; below = part.below } in
    record {
      between = simp one-mul at (scaled-between UNIT 1 (record { num = exact; den = den }) lo hi (lit< tt) between);
      narrow = narrow_pair count lo hi part.near;
      most = up-le hi UNIT (10000000000 * count) (lit< tt) (omega (arith, part.most));
    }

pub year_encloses : (ps : List Prospect) (j : ℕ) → AllByRecursion IsSmall ps → j ≤ 131 → EnclosesExpected ps j (rounded_year ps j)
year_encloses ps j small year = record {
  premium = cash_of (length ps) _ (ONE ^ j) _ _ (power_pos j)
      (list_part (λ p. premium_due p j * alive p.rates j) (premium_by down j) (premium_by up j) (ONE ^ j) ps small (λ p s. premium_part p j s year));
  death = cash_of (length ps) _ (ONE ^ (j + 1)) _ _ (power_pos (j + 1))
      (list_part (λ p. death_due p j * dying p.rates j) (death_by down j) (death_by up j) (ONE ^ (j + 1)) ps small (λ p s. death_part p j s year));
  maturity = cash_of (length ps) _ (ONE ^ (j + 1)) _ _ (power_pos (j + 1))
      (list_part (λ p. maturity_due p j * alive p.rates (j + 1)) (maturity_by down j) (maturity_by up j) (ONE ^ (j + 1)) ps small (λ p s. maturity_part p j s year));
}
