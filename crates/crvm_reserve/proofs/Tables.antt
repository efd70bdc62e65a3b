-- What a table and the columns made from it say of the covers.
use Rattle.crvm_reserve.proofs.Names.{◌≡◌, ℕ, ◌+◌, ◌-◌, ◌*◌, ◌<◌, ◌≤◌, refl, arith, min, length, add-zero, UNIT, down, up, Cover, cover_of, cap_of, cap_shape, AreValuesAt, Columns, Values, up-le, ben_hi-most, ben_lo-most, ann_lo-least, ann_lo-most, ann_hi-most, term_lo, term_hi, level_lo, level_hi, excess_lo, excess_hi, beta_lo, beta_hi, reserve_lo, reserve_hi, amount_lo, amount_hi, CanReserve, IsReserved, ArePremiumPartsOf, IsMadeFor, AreMadeFor, premium_of, level_bound, excess_bound, beta_bound, reserve_bound}
use Rattle.std.proofs.Math.Nat.{le_trans, mul-le-mul_left, mul-le-mul_right}
use Rattle.std.proofs.lemmas.Nat.{mul-le}
use Rattle.rate_table.specs.Rates.{Rates, ONE, AreRates, HoldsAge}
use Rattle.rate_table.specs.declared.shape.Shape.{Shape}
use Rattle.crvm_reserve.specs.declared.premium.Premium.{Premium}
use Rattle.crvm_reserve.specs.declared.premium.PremiumParts.{PremiumParts}
use Rattle.crvm_reserve.proofs.Enclosed.{IsCover, own, cap_cover, ann-order, beta_lo-most, beta_hi-most}

-- the rates of a cover of the table are at most 1
rates_most : (table : Rates) (shape : Shape) (bp k : ℕ) → AreRates table
    → table.first_age ≤ shape.age → shape.age + shape.n ≤ table.first_age + length table.rates → k < shape.n
    → (cover_of table shape bp).rates k ≤ ONE
rates_most table shape bp k are first last below = are.bound (shape.age + k - table.first_age) (omega arith)

pub reserved : (table cap_table : Rates) (shape : Shape) (bp : ℕ) → AreRates table → AreRates cap_table → CanReserve table shape bp
    → HoldsAge cap_table (shape.age + 1) → IsReserved (cover_of table shape bp) (cap_of cap_table shape.age bp)
reserved table cap_table shape bp are cap_are can cap =
    let value = can.value in
    let renewed = can.renewed in
    let covered = value.covered in
    let first = value.first in
    let last = value.last in
    let ages = are.ages in
    let cap_ages = cap_are.ages in
    record {
      renewed = can.renewed;
      covered = can.value.covered;
      years = omega arith;
      rates = λ k below. rates_most table shape bp k are first last below;
      first = rw (add-zero shape.age) can.first;
      cap_paid = omega (arith, cap);
      cap_covered = omega arith;
      cap_years = omega (arith, cap);
      cap_rates = λ k below. rates_most cap_table (cap_shape cap_table shape.age) bp k cap_are (omega (arith, cap)) (omega (arith, cap)) below;
    }

-- the term premium is at the rate of the first year
pub term_is : (c cap : Cover) (parts : PremiumParts) → ArePremiumPartsOf c cap parts
    → (down (10000 * parts.rate * UNIT) (ONE * (10000 + parts.bp)) ≡ term_lo c)
    × (up (10000 * parts.rate * UNIT) (ONE * (10000 + parts.bp)) ≡ term_hi c)
term_is c cap parts are = rw (are.rate, are.interest) (refl, refl)

-- what a quotient of a year's values requires, if a premium is due
pub record AreDue (values : Values) : Type 0 where
  pub lo : UNIT ≤ values.ann.lo
  pub hi : UNIT ≤ values.ann.hi
  pub ben_lo : values.ben.lo ≤ UNIT
  pub ben_hi : values.ben.hi ≤ UNIT

pub due_at : (c : Cover) (values : Values) (t : ℕ) → IsCover c → AreValuesAt c t values → t < c.h → AreDue values
due_at c values t is are paid =
    let below : t < c.n = omega (arith, is.covered) in
    let within : t ≤ c.n = omega arith in
    let least = ann_lo-least c t below paid in
    record {
      lo = rw are.premiums least;
      hi = rw are.premiums (le_trans least (ann-order c t is within));
      ben_lo = rw are.benefits (ben_lo-most c t within is.rates);
      ben_hi = rw are.benefits (ben_hi-most c t is.rates);
    }

-- a quotient of a year's values is the rounded level premium
pub level_lo_is : (c : Cover) (values : Values) (t : ℕ) → AreValuesAt c t values
    → down (values.ben.lo * UNIT) values.ann.hi ≡ level_lo c t
unfolding level_bound
level_lo_is c values t are = rw (are.benefits, are.premiums) refl

pub level_hi_is : (c : Cover) (values : Values) (t : ℕ) → AreValuesAt c t values
    → up (values.ben.hi * UNIT) values.ann.lo ≡ level_hi c t
unfolding level_bound
level_hi_is c values t are = rw (are.benefits, are.premiums) refl

-- what the parts of a premium ask, at issue, a year later and of the cap
pub issue_due : (c cap : Cover) (parts : PremiumParts) → ArePremiumPartsOf c cap parts → AreDue parts.issue
issue_due c cap parts are = due_at c parts.issue 0 (own c cap are.reserved) are.issue (omega (arith, are.reserved.renewed))

pub renewal_due : (c cap : Cover) (parts : PremiumParts) → ArePremiumPartsOf c cap parts → AreDue parts.renewal
renewal_due c cap parts are = due_at c parts.renewal 1 (own c cap are.reserved) are.renewal (omega (arith, are.reserved.renewed))

pub limit_due : (c cap : Cover) (parts : PremiumParts) → ArePremiumPartsOf c cap parts → AreDue parts.limit
limit_due c cap parts are = due_at cap parts.limit 0 (cap_cover c cap are.reserved) are.limit (omega (arith, are.reserved.cap_paid))

-- the parts of the rounded premium
pub excess_lo_is : (c cap : Cover) (renewal limit term : ℕ) → renewal ≡ level_lo c 1 → limit ≡ level_lo cap 0 → term ≡ term_hi c
    → min renewal limit - term ≡ excess_lo c cap
unfolding excess_bound
excess_lo_is c cap renewal limit term p q r = rw (p, q, r) refl

pub excess_hi_is : (c cap : Cover) (renewal limit term : ℕ) → renewal ≡ level_hi c 1 → limit ≡ level_hi cap 0 → term ≡ term_lo c
    → min renewal limit - term ≡ excess_hi c cap
unfolding excess_bound
excess_hi_is c cap renewal limit term p q r = rw (p, q, r) refl

pub beta_lo_is : (c cap : Cover) (values : Values) (more : ℕ) → AreValuesAt c 0 values → more ≡ excess_lo c cap
    → down ((values.ben.lo + more) * UNIT) values.ann.hi ≡ beta_lo c cap
unfolding beta_bound
beta_lo_is c cap values more are p = rw (are.benefits, are.premiums, p) refl

pub beta_hi_is : (c cap : Cover) (values : Values) (more : ℕ) → AreValuesAt c 0 values → more ≡ excess_hi c cap
    → up ((values.ben.hi + more) * UNIT) values.ann.lo ≡ beta_hi c cap
unfolding beta_bound
beta_hi_is c cap values more are p = rw (are.benefits, are.premiums, p) refl

-- a premium from its four parts
pub premium_is : (c cap : Cover) (lo hi least most : ℕ) → lo ≡ beta_lo c cap → hi ≡ beta_hi c cap → least ≡ excess_lo c cap → most ≡ excess_hi c cap
    → (let p : Premium = record { lo = lo; hi = hi; excess_lo = least; excess_hi = most } in p) ≡ premium_of c cap
premium_is c cap lo hi least most p q r s = rw (p, q, r, s) refl

-- how large the parts of a reserve are
pub record AreSmall (values : Values) (premium : Premium) : Type 0 where
  pub ben_lo : values.ben.lo ≤ UNIT
  pub ben_hi : values.ben.hi ≤ UNIT
  pub premium_lo : premium.lo ≤ 2 * UNIT
  pub premium_hi : premium.hi ≤ 2 * UNIT
  pub lo : premium.lo * values.ann.lo ≤ 2 * UNIT * (131 * UNIT)
  pub hi : premium.hi * values.ann.hi ≤ 2 * UNIT * (131 * UNIT)

pub small : (c cap : Cover) (t : ℕ) (values : Values) (premium : Premium) → IsMadeFor c cap t values premium → AreSmall values premium
small c cap t values premium made =
    let is = made.reserved in
    let few = mul-le-mul_right UNIT (years_left c t is.years) in
    let lo : values.ann.lo ≤ 131 * UNIT = rw made.values_are.premiums (le_trans (ann_lo-most c t is.covered made.within) few) in
    let hi : values.ann.hi ≤ 131 * UNIT = rw made.values_are.premiums (le_trans (ann_hi-most c t) few) in
    let premium_lo : premium.lo ≤ 2 * UNIT = rw made.premium_is (beta_lo-most c cap is) in
    let premium_hi : premium.hi ≤ 2 * UNIT = rw made.premium_is (beta_hi-most c cap is) in
    record {
      ben_lo = rw made.values_are.benefits (ben_lo-most c t made.within is.rates);
      ben_hi = rw made.values_are.benefits (ben_hi-most c t is.rates);
      premium_lo = premium_lo;
      premium_hi = premium_hi;
      lo = mul-le _ _ _ _ premium_lo lo;
      hi = mul-le _ _ _ _ premium_hi hi;
    }
  where
    years_left : (c : Cover) (t : ℕ) → c.n ≤ 131 → c.n - t ≤ 131
    years_left c t years = omega arith

-- the rounded reserve from the values and the premium
pub reserve_lo_is : (c cap : Cover) (t : ℕ) (values : Values) (premium : Premium) → IsMadeFor c cap t values premium
    → values.ben.lo - up (premium.hi * values.ann.hi) UNIT ≡ reserve_lo c cap t
unfolding reserve_bound
reserve_lo_is c cap t values premium made = rw (made.values_are.benefits, made.values_are.premiums, made.premium_is) refl

pub reserve_hi_is : (c cap : Cover) (t : ℕ) (values : Values) (premium : Premium) → IsMadeFor c cap t values premium
    → values.ben.hi - down (premium.lo * values.ann.lo) UNIT ≡ reserve_hi c cap t
unfolding reserve_bound
reserve_hi_is c cap t values premium made = rw (made.values_are.benefits, made.values_are.premiums, made.premium_is) refl

-- what was made by columns was made by their values at a year
pub made_at : (c cap : Cover) (columns : Columns) (premium : Premium) (t : ℕ) (values : Values) → AreMadeFor c cap columns premium → t ≤ columns.n
    → AreValuesAt c t values → IsMadeFor c cap t values premium
made_at c cap columns premium t values made within are = record {
  reserved = made.reserved;
  within = omega (arith, made.columns_are.years);
  values_are = are;
  premium_is = made.premium_is;
}

-- the reserve per unit is at most 1
pub reserve_hi-most : (c cap : Cover) (t : ℕ) → IsReserved c cap → reserve_hi c cap t ≤ UNIT
unfolding reserve_bound
reserve_hi-most c cap t is = omega (arith, ben_hi-most c t is.rates)

pub reserve_lo-most : (c cap : Cover) (t : ℕ) → IsReserved c cap → t ≤ c.n → reserve_lo c cap t ≤ UNIT
unfolding reserve_bound
reserve_lo-most c cap t is within = omega (arith, ben_lo-most c t within is.rates)

pub amount_lo_is : (c cap : Cover) (amount t unit : ℕ) → unit ≡ reserve_lo c cap t → down (amount * unit) UNIT ≡ amount_lo c cap amount t
amount_lo_is c cap amount t unit p = rw p refl

pub amount_hi_is : (c cap : Cover) (amount t unit : ℕ) → unit ≡ reserve_hi c cap t → up (amount * unit) UNIT ≡ amount_hi c cap amount t
amount_hi_is c cap amount t unit p = rw p refl

-- the reserve of an amount is at most the amount
pub amount_hi-most : (c cap : Cover) (amount t : ℕ) → IsReserved c cap → amount_hi c cap amount t ≤ amount
amount_hi-most c cap amount t is =
    up-le (amount * reserve_hi c cap t) UNIT amount (omega arith) (mul-le-mul_left amount (reserve_hi-most c cap t is))
