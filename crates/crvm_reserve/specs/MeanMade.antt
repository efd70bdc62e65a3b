-- What a mean reserve is made from.
use Rattle.std.specs.Prelude.{◌≡◌, ℕ, ◌+◌, ◌<◌, ◌≤◌}
use Rattle.crvm_reserve.specs.Names.{ONE, Cover, AreValuesAt, Values}
use Rattle.crvm_reserve.specs.Made.{IsReserved, premium_of}
use Rattle.crvm_reserve.specs.declared.mean.MeanParts.{MeanParts}

-- the parts are those of a cover and its cap in year t, before the end of cover: the values at its start and at its end
pub record AreMeanPartsOf (c cap : Cover) (t : ℕ) (parts : MeanParts) : Type 0 where
  pub reserved : IsReserved c cap
  pub before : t < c.n
  pub year : parts.t ≡ t
  pub payments : parts.h ≡ c.h
  pub start : AreValuesAt c t parts.start
  pub end : AreValuesAt c (t + 1) parts.end
  pub premium : parts.premium ≡ premium_of c cap

pub record AreMeanParts (parts : MeanParts) : Type 0 where
  pub cover : Cover
  pub cap : Cover
  pub year : ℕ
  pub are : AreMeanPartsOf cover cap year parts

-- values are those of a cover at year t and a year later, whose rates are at most 1
pub record ArePaidUpMeanOf (c : Cover) (t : ℕ) (start end : Values) : Type 0 where
  pub before : t < c.n
  pub years : c.n ≤ 131
  pub rates : (k : ℕ) → k < c.n → c.rates k ≤ ONE
  pub start_are : AreValuesAt c t start
  pub end_are : AreValuesAt c (t + 1) end

pub record ArePaidUpMean (start end : Values) : Type 0 where
  pub cover : Cover
  pub year : ℕ
  pub are : ArePaidUpMeanOf cover year start end
