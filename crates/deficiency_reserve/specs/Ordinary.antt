-- What the minimum reserve is computed from: the values of a cover, and the bounds of its ordinary reserve.
use Rattle.std.specs.Prelude.{ℕ, ◌≤◌}
use Rattle.deficiency_reserve.specs.Names.{Cover, reserve, Encloses, ArePaidUpFor, IsPaidUpFor}
use Rattle.present_value.specs.declared.pair.Columns.{Columns}
use Rattle.present_value.specs.declared.pair.Values.{Values}

-- the bounds enclose the ordinary reserve of an amount by a cover and its cap
pub record IsOrdinary (c cap : Cover) (t amount : ℕ) (ordinary : ℕ × ℕ) : Type 0 where
  pub covered : c.h ≤ c.n
  pub encloses : Encloses ordinary.0 ordinary.1 amount (reserve c cap t)

-- and the values are those of this cover at year t
pub record HasOrdinaryFor (c cap : Cover) (t : ℕ) (values : Values) (ordinary : ℕ × ℕ) (amount : ℕ) : Type 0 where
  pub values_are : IsPaidUpFor c t values
  pub ordinary_is : IsOrdinary c cap t amount ordinary

pub record HasOrdinary (values : Values) (ordinary : ℕ × ℕ) (amount : ℕ) : Type 0 where
  pub cover : Cover
  pub cap : Cover
  pub year : ℕ
  pub has : HasOrdinaryFor cover cap year values ordinary amount

-- the same for columns
pub record HaveOrdinaryFor (c cap : Cover) (t : ℕ) (columns : Columns) (ordinary : ℕ × ℕ) (amount : ℕ) : Type 0 where
  pub columns_are : ArePaidUpFor c columns
  pub ordinary_is : IsOrdinary c cap t amount ordinary

pub record HaveOrdinary (columns : Columns) (t : ℕ) (ordinary : ℕ × ℕ) (amount : ℕ) : Type 0 where
  pub cover : Cover
  pub cap : Cover
  pub have : HaveOrdinaryFor cover cap t columns ordinary amount
