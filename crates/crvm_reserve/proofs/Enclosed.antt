-- The rounded premium and reserve enclose the exact ones, and their bounds are close together.
use Rattle.crvm_reserve.proofs.Names.{ℕ, ◌+◌, ◌-◌, ◌*◌, ◌<◌, ◌≤◌, arith, Between, over, Cover, year, death, ben, ann, term_premium, level_premium, excess, beta, reserve, Encloses, UNIT, ben_lo, ben_hi, ann_lo, ann_hi, down-le, le-up, apart, plus-between, less-between, lesser-between, over-between, times-between, scaled-between, ben-between, ann-between, ben-narrow, ann-narrow, ben_hi-most, ben_lo-most, ann_lo-most, ann_lo-least, ordered, term_lo, term_hi, level_lo, level_hi, excess_lo, excess_hi, beta_lo, beta_hi, reserve_lo, reserve_hi, amount_lo, amount_hi, IsReserved, AreClose, level_bound, excess_bound, beta_bound, reserve_bound}
use Rattle.std.proofs.Math.Nat.{mul-le-mul_right, mul-le-mul_left}
use Rattle.rate_table.specs.Rates.{ONE}
use Rattle.present_value.proofs.Enclosing.{year_pos}
use Rattle.crvm_reserve.proofs.Narrow.{level_most, level_up_most, level_narrow, product_narrow}
use Rattle.crvm_reserve.proofs.Renewal.{renewal-between}

-- the term premium of the first year

term-between : (c : Cover) → Between (term_lo c) (term_hi c) UNIT (term_premium c)
unfolding term_premium
term-between c = record {
  proper = year_pos c;
  above = omega (arith, down-le (death c 0 * UNIT) (year c));
  below = omega (arith, le-up (death c 0 * UNIT) (year c) (year_pos c));
}

term-narrow : (c : Cover) → term_hi c ≤ term_lo c + 1
term-narrow c = omega (arith, apart (death c 0 * UNIT) (death c 0 * UNIT) (year c) 0 (year_pos c) (omega arith))

-- a level premium from a year in which a premium is due

-- a cover whose values are bounded
pub record IsCover (c : Cover) : Type 0 where
  pub covered : c.h ≤ c.n
  pub years : c.n ≤ 131
  pub rates : (k : ℕ) → k < c.n → c.rates k ≤ ONE

pub own : (c cap : Cover) → IsReserved c cap → IsCover c
own c cap r = record { covered = r.covered; years = r.years; rates = r.rates }

pub cap_cover : (c cap : Cover) → IsReserved c cap → IsCover cap
cap_cover c cap r = record { covered = r.cap_covered; years = r.cap_years; rates = r.cap_rates }

pub ann-order : (c : Cover) (t : ℕ) → IsCover c → t ≤ c.n → ann_lo c t ≤ ann_hi c t
ann-order c t is within = ordered (ann_lo c t) (ann_hi c t) UNIT (ann c t) (ann-between c t is.covered within)

level-between : (c : Cover) (t : ℕ) → IsCover c → t < c.h → Between (level_lo c t) (level_hi c t) UNIT (over (ben c t) (ann c t))
unfolding level_bound
level-between c t is due =
    let within : t < c.n = omega (arith, is.covered) in
    let least = ann_lo-least c t within due in
    over-between UNIT (ben c t) (ann c t) (ben_lo c t) (ben_hi c t) (ann_lo c t) (ann_hi c t) (omega arith) (omega arith)
    (ann-order c t is (omega arith)) (ben-between c t (omega arith)) (ann-between c t is.covered (omega arith))

level-narrow : (c : Cover) (t : ℕ) → IsCover c → t < c.h → level_hi c t ≤ level_lo c t + 264
unfolding level_bound
level-narrow c t is due =
    let within : t < c.n = omega (arith, is.covered) in
    let least = ann_lo-least c t within due in
    let ben_near : ben_hi c t ≤ ben_lo c t + 131 = omega (arith, ben-narrow c t, is.years) in
    let ann_near : ann_hi c t ≤ ann_lo c t + 131 = omega (arith, ann-narrow c t, is.years) in
    let most : ben_lo c t ≤ 1 * UNIT = omega (arith, ben_lo-most c t (omega arith) is.rates) in
    let bound = level_narrow UNIT (ben_lo c t) (ben_hi c t) (ann_lo c t) (ann_hi c t) 131 131 1 (omega arith) least
    (ann-order c t is (omega arith)) ann_near (omega arith) ben_near most in
    omega arith

pub level_lo-most : (c : Cover) (t : ℕ) → IsCover c → t < c.h → level_lo c t ≤ UNIT
unfolding level_bound
level_lo-most c t is due =
    let within : t < c.n = omega (arith, is.covered) in
    let least = ann_lo-least c t within due in
    let order = ann-order c t is (omega arith) in
    let most : ben_lo c t ≤ 1 * UNIT = omega (arith, ben_lo-most c t (omega arith) is.rates) in
    omega (arith, level_most UNIT (ben_lo c t) (ann_hi c t) 1 (omega arith) (omega arith) most)

pub level_hi-most : (c : Cover) (t : ℕ) → IsCover c → t < c.h → level_hi c t ≤ UNIT
unfolding level_bound
level_hi-most c t is due =
    let within : t < c.n = omega (arith, is.covered) in
    let least = ann_lo-least c t within due in
    let most : ben_hi c t ≤ 1 * UNIT = omega (arith, ben_hi-most c t is.rates) in
    omega (arith, level_up_most UNIT (ben_hi c t) (ann_lo c t) 1 (omega arith) least most)

-- the excess

cap-between : (cap : Cover) → IsCover cap → 0 < cap.h → Between (level_lo cap 0) (level_hi cap 0) UNIT (level_premium cap)
unfolding level_premium
cap-between cap is due = level-between cap 0 is due

pub excess-between : (c cap : Cover) → IsReserved c cap → Between (excess_lo c cap) (excess_hi c cap) UNIT (excess c cap)
unfolding excess_bound excess
excess-between c cap r =
    let renewal = renewal-between c (level_lo c 1) (level_hi c 1) r.renewed r.covered r.first
    (level-between c 1 (own c cap r) (omega (arith, r.renewed))) in
    let limit = cap-between cap (cap_cover c cap r) (omega (arith, r.cap_paid)) in
    less-between UNIT _ _ _ _ _ _ (lesser-between UNIT _ _ _ _ _ _ renewal limit) (term-between c)

pub excess-narrow : (c cap : Cover) → IsReserved c cap → excess_hi c cap ≤ excess_lo c cap + 265
unfolding excess_bound
excess-narrow c cap r =
    let renewal = level-narrow c 1 (own c cap r) (omega (arith, r.renewed)) in
    let limit = level-narrow cap 0 (cap_cover c cap r) (omega (arith, r.cap_paid)) in
    let term = term-narrow c in
    omega arith

pub excess_lo-most : (c cap : Cover) → IsReserved c cap → excess_lo c cap ≤ UNIT
unfolding excess_bound
excess_lo-most c cap r =
    let renewal = level_lo-most c 1 (own c cap r) (omega (arith, r.renewed)) in
    omega arith

pub excess_hi-most : (c cap : Cover) → IsReserved c cap → excess_hi c cap ≤ UNIT
unfolding excess_bound
excess_hi-most c cap r =
    let renewal = level_hi-most c 1 (own c cap r) (omega (arith, r.renewed)) in
    omega arith

-- the modified net premium

pub beta-between : (c cap : Cover) → IsReserved c cap → Between (beta_lo c cap) (beta_hi c cap) UNIT (beta c cap)
unfolding beta_bound beta
beta-between c cap r =
    let within : 0 < c.n = omega (arith, r.renewed, r.covered) in
    let least = ann_lo-least c 0 within (omega (arith, r.renewed)) in
    over-between UNIT _ _ _ _ _ _ (omega arith) (omega arith) (ann-order c 0 (own c cap r) (omega arith))
    (plus-between UNIT _ _ _ _ _ _ (ben-between c 0 (omega arith)) (excess-between c cap r))
    (ann-between c 0 r.covered (omega arith))

pub beta-narrow : (c cap : Cover) → IsReserved c cap → beta_hi c cap ≤ beta_lo c cap + 660
unfolding beta_bound
beta-narrow c cap r =
    let within : 0 < c.n = omega (arith, r.renewed, r.covered) in
    let least = ann_lo-least c 0 within (omega (arith, r.renewed)) in
    let excess_near = excess-narrow c cap r in
    let excess_most = excess_lo-most c cap r in
    let ben_near = ben-narrow c 0 in
    let ann_near : ann_hi c 0 ≤ ann_lo c 0 + 131 = omega (arith, ann-narrow c 0, r.years) in
    let ben_most = ben_lo-most c 0 (omega arith) r.rates in
    let near : ben_hi c 0 + excess_hi c cap ≤ ben_lo c 0 + excess_lo c cap + 396 = omega (arith, r.years) in
    let most : ben_lo c 0 + excess_lo c cap ≤ 2 * UNIT = omega arith in
    let bound = level_narrow UNIT (ben_lo c 0 + excess_lo c cap) (ben_hi c 0 + excess_hi c cap) (ann_lo c 0) (ann_hi c 0) 396 131 2
    (omega arith) least (ann-order c 0 (own c cap r) (omega arith)) ann_near (omega arith) near most in
    omega arith

pub beta_lo-most : (c cap : Cover) → IsReserved c cap → beta_lo c cap ≤ 2 * UNIT
unfolding beta_bound
beta_lo-most c cap r =
    let within : 0 < c.n = omega (arith, r.renewed, r.covered) in
    let least = ann_lo-least c 0 within (omega (arith, r.renewed)) in
    let order = ann-order c 0 (own c cap r) (omega arith) in
    let excess_most = excess_lo-most c cap r in
    let ben_most = ben_lo-most c 0 (omega arith) r.rates in
    level_most UNIT (ben_lo c 0 + excess_lo c cap) (ann_hi c 0) 2 (omega arith) (omega arith) (omega arith)

pub beta_hi-most : (c cap : Cover) → IsReserved c cap → beta_hi c cap ≤ 2 * UNIT
unfolding beta_bound
beta_hi-most c cap r =
    let within : 0 < c.n = omega (arith, r.renewed, r.covered) in
    let least = ann_lo-least c 0 within (omega (arith, r.renewed)) in
    let excess_most = excess_hi-most c cap r in
    let ben_most = ben_hi-most c 0 r.rates in
    level_up_most UNIT (ben_hi c 0 + excess_hi c cap) (ann_lo c 0) 2 (omega arith) least (omega arith)

-- the reserve

pub reserve-between : (c cap : Cover) (t : ℕ) → IsReserved c cap → t ≤ c.n
    → Between (reserve_lo c cap t) (reserve_hi c cap t) UNIT (reserve c cap t)
unfolding reserve_bound reserve
reserve-between c cap t r within =
    less-between UNIT _ _ _ _ _ _ (ben-between c t within)
    (times-between UNIT _ _ _ _ _ _ (omega arith) (beta-between c cap r) (ann-between c t r.covered within))

pub reserve-narrow : (c cap : Cover) (t : ℕ) → IsReserved c cap → t ≤ c.n → reserve_hi c cap t ≤ reserve_lo c cap t + 100000
unfolding reserve_bound
reserve-narrow c cap t r within =
    let ben_near = ben-narrow c t in
    let ann_near : ann_hi c t ≤ ann_lo c t + 131 = omega (arith, ann-narrow c t, r.years) in
    let ann_most = ann_lo-most c t r.covered within in
    let few = mul-le-mul_right UNIT (years_left c t r.years) in
    let annuity_most : ann_lo c t ≤ 131 * UNIT = omega arith in
    let premiums = product_narrow UNIT (ann_lo c t) (ann_hi c t) (beta_lo c cap) (beta_hi c cap) 660 131 2 131 (omega arith)
    (beta-narrow c cap r) ann_near (beta_lo-most c cap r) annuity_most (omega arith) in
    omega (arith, r.years)
  where
    years_left : (c : Cover) (t : ℕ) → c.n ≤ 131 → c.n - t ≤ 131
    years_left c t years = omega arith

pub reserve-close : (c cap : Cover) (t : ℕ) → IsReserved c cap → t ≤ c.n → AreClose (reserve_lo c cap t) (reserve_hi c cap t) (reserve c cap t)
reserve-close c cap t r within =
    let between = reserve-between c cap t r within in
    let near = mul-le-mul_right (reserve c cap t).den (reserve-narrow c cap t r within) in
    record {
      between = between;
      low = omega (arith, between.below);
      high = omega (arith, between.above);
    }

-- the cents
pub amount-encloses : (c cap : Cover) (amount t : ℕ) → IsReserved c cap → t ≤ c.n → amount ≤ 10000000000
    → Encloses (amount_lo c cap amount t) (amount_hi c cap amount t) amount (reserve c cap t)
amount-encloses c cap amount t r within most =
    let near = mul-le-mul_left amount (reserve-narrow c cap t r within) in
    let bound = apart (amount * reserve_hi c cap t) (amount * reserve_lo c cap t) UNIT 1 (omega arith) (omega arith) in
    record {
      between = scaled-between UNIT amount (reserve c cap t) (reserve_lo c cap t) (reserve_hi c cap t) (omega arith)
          (reserve-between c cap t r within);
      narrow = omega arith;
    }
