-- The bounds of a paid-up amount enclose the value of its benefits.
use Rattle.crvm_reserve.proofs.Names.{◌≡◌, ℕ, ◌+◌, ◌*◌, ◌<◌, ◌≤◌, ap, arith, Encloses, UNIT, down, up, Cover, ben, ben_lo, ben_hi, AreValuesAt, Columns, Values, scaled-between, apart, up-le, ben-between, ben-narrow, ben_lo-most, ben_hi-most, paid_up_lo, paid_up_hi, ArePaidUpFor, IsPaidUpFor}
use Rattle.std.proofs.Math.Nat.{mul-le-mul_left}
use Rattle.present_value.specs.declared.pair.Pair.{Pair}

pub paid_up_lo_is : (c : Cover) (amount t : ℕ) (values : Values) → AreValuesAt c t values → down (amount * values.ben.lo) UNIT ≡ paid_up_lo c amount t
paid_up_lo_is c amount t values are = ap (λ (pair : Pair). down (amount * pair.lo) UNIT) are.benefits

pub paid_up_hi_is : (c : Cover) (amount t : ℕ) (values : Values) → AreValuesAt c t values → up (amount * values.ben.hi) UNIT ≡ paid_up_hi c amount t
paid_up_hi_is c amount t values are = ap (λ (pair : Pair). up (amount * pair.hi) UNIT) are.benefits

pub paid_up-encloses : (c : Cover) (amount t : ℕ) → c.n ≤ 131 → t ≤ c.n → amount ≤ 10000000000
    → Encloses (paid_up_lo c amount t) (paid_up_hi c amount t) amount (ben c t)
paid_up-encloses c amount t years within most =
    let close : ben_hi c t ≤ ben_lo c t + 131 = omega (arith, ben-narrow c t) in
    let near = mul-le-mul_left amount close in
    let bound = apart (amount * ben_hi c t) (amount * ben_lo c t) UNIT 1 (omega arith) (omega arith) in
    record {
      between = scaled-between UNIT amount (ben c t) (ben_lo c t) (ben_hi c t) (omega arith) (ben-between c t within);
      narrow = omega arith;
    }

-- the benefits of an amount are worth the amount at most
pub paid_up_hi-most : (c : Cover) (amount t : ℕ) → ((k : ℕ) → k < c.n → c.rates k ≤ 1000000000) → paid_up_hi c amount t ≤ amount
paid_up_hi-most c amount t rates =
    up-le (amount * ben_hi c t) UNIT amount (omega arith) (mul-le-mul_left amount (ben_hi-most c t rates))

-- columns have the values of each year
pub paid_up_at : (c : Cover) (columns : Columns) (t : ℕ) (values : Values) → ArePaidUpFor c columns → t ≤ columns.n → AreValuesAt c t values
    → IsPaidUpFor c t values
paid_up_at c columns t values made within are = record {
  within = omega (arith, made.columns_are.years);
  years = made.years;
  rates = made.rates;
  values_are = are;
}

-- per unit of amount they are worth 1 at most
pub small_lo : (c : Cover) (t : ℕ) (values : Values) → IsPaidUpFor c t values → values.ben.lo ≤ UNIT
small_lo c t values made = rw made.values_are.benefits (ben_lo-most c t made.within made.rates)

pub small_hi : (c : Cover) (t : ℕ) (values : Values) → IsPaidUpFor c t values → values.ben.hi ≤ UNIT
small_hi c t values made = rw made.values_are.benefits (ben_hi-most c t made.rates)
