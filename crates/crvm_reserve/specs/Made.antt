use Rattle.std.specs.Prelude.{◌≡◌, ℕ, ◌+◌, ◌*◌, ◌<◌, ◌≤◌}
use Rattle.crvm_reserve.specs.Names.{Rates, ONE, rate_at, Fraction, Between, Cover, UNIT, down, up, AreValuesAt, CanValue, AreColumns, Values}
use Rattle.rate_table.specs.declared.shape.Shape.{Shape}
use Rattle.present_value.specs.declared.pair.Columns.{Columns}
use Rattle.present_value.specs.declared.pair.Pair.{Pair}
use Rattle.crvm_reserve.specs.Rounded.{excess_bound, beta_bound, reserve_bound}
use Rattle.crvm_reserve.specs.declared.premium.Premium.{Premium}
use Rattle.crvm_reserve.specs.declared.premium.PremiumParts.{PremiumParts}

-- a shape has a modified net premium: it can be valued, a premium is due after the first, and the rate of death in
-- the first year is at most one half
pub record CanReserve (table : Rates) (shape : Shape) (bp : ℕ) : Type 0 where
  pub value : CanValue table shape bp
  pub renewed : 2 ≤ shape.h
  pub first : rate_at table shape.age ≤ 500000000

-- the same for a cover, and of the cover of its cap
pub record IsReserved (c cap : Cover) : Type 0 where
  pub renewed : 2 ≤ c.h
  pub covered : c.h ≤ c.n
  pub years : c.n ≤ 131
  pub rates : (k : ℕ) → k < c.n → c.rates k ≤ ONE
  pub first : c.rates 0 ≤ 500000000
  pub cap_paid : 1 ≤ cap.h
  pub cap_covered : cap.h ≤ cap.n
  pub cap_years : cap.n ≤ 131
  pub cap_rates : (k : ℕ) → k < cap.n → cap.rates k ≤ ONE

-- the premium is that of a cover and its cap, rounded, with the excess from which it is computed
abbrev pub premium_of : Cover → Cover → Premium
premium_of c cap = record {
  lo = beta_bound down up c cap;
  hi = beta_bound up down c cap;
  excess_lo = excess_bound down up c cap;
  excess_hi = excess_bound up down c cap;
}

-- the parts are those of a cover and its cap: the values at issue and a year later, and at issue of the cap
pub record ArePremiumPartsOf (c cap : Cover) (parts : PremiumParts) : Type 0 where
  pub reserved : IsReserved c cap
  pub rate : parts.rate ≡ c.rates 0
  pub interest : parts.bp ≡ c.interest
  pub low : c.interest ≤ 2000
  pub issue : AreValuesAt c 0 parts.issue
  pub renewal : AreValuesAt c 1 parts.renewal
  pub limit : AreValuesAt cap 0 parts.limit

pub record ArePremiumParts (parts : PremiumParts) : Type 0 where
  pub cover : Cover
  pub cap : Cover
  pub are : ArePremiumPartsOf cover cap parts

-- the values and the premium are those of one cover at year t, and of its cap
pub record IsMadeFor (c cap : Cover) (t : ℕ) (values : Values) (premium : Premium) : Type 0 where
  pub reserved : IsReserved c cap
  pub within : t ≤ c.n
  pub values_are : AreValuesAt c t values
  pub premium_is : premium ≡ premium_of c cap

pub record IsMadeAt (values : Values) (premium : Premium) : Type 0 where
  pub cover : Cover
  pub cap : Cover
  pub year : ℕ
  pub made : IsMadeFor cover cap year values premium

-- a pair is the reserve per unit of amount of a cover and its cap at year t, rounded
pub record IsUnitFor (c cap : Cover) (t : ℕ) (unit : Pair) : Type 0 where
  pub reserved : IsReserved c cap
  pub within : t ≤ c.n
  pub lo : unit.lo ≡ reserve_bound down up c cap t
  pub hi : unit.hi ≡ reserve_bound up down c cap t

pub record IsUnitAt (unit : Pair) : Type 0 where
  pub cover : Cover
  pub cap : Cover
  pub year : ℕ
  pub made : IsUnitFor cover cap year unit

-- columns and premium were made for one cover and its cap
pub record AreMadeFor (c cap : Cover) (columns : Columns) (premium : Premium) : Type 0 where
  pub reserved : IsReserved c cap
  pub columns_are : AreColumns c columns
  pub premium_is : premium ≡ premium_of c cap

pub record AreMade (columns : Columns) (premium : Premium) : Type 0 where
  pub cover : Cover
  pub cap : Cover
  pub made : AreMadeFor cover cap columns premium

-- values are those of a cover at year t, whose rates are at most 1
pub record IsPaidUpFor (c : Cover) (t : ℕ) (values : Values) : Type 0 where
  pub within : t ≤ c.n
  pub years : c.n ≤ 131
  pub rates : (k : ℕ) → k < c.n → c.rates k ≤ ONE
  pub values_are : AreValuesAt c t values

pub record IsPaidUpAt (values : Values) : Type 0 where
  pub cover : Cover
  pub year : ℕ
  pub made : IsPaidUpFor cover year values

-- the same for columns
pub record ArePaidUpFor (c : Cover) (columns : Columns) : Type 0 where
  pub years : c.n ≤ 131
  pub rates : (k : ℕ) → k < c.n → c.rates k ≤ ONE
  pub columns_are : AreColumns c columns

pub record ArePaidUp (columns : Columns) : Type 0 where
  pub cover : Cover
  pub made : ArePaidUpFor cover columns

-- each bound differs by at most 100,000 units from the value that the two enclose
pub record AreClose (lo hi : ℕ) (value : Fraction) : Type 0 where
  pub between : Between lo hi UNIT value
  pub low : UNIT * value.num ≤ (lo + 100000) * value.den
  pub high : hi * value.den ≤ UNIT * value.num + 100000 * value.den
