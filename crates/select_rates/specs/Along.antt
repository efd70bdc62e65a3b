use Rattle.std.specs.Prelude.{◌≡◌, ℕ, ◌+◌, ◌<◌, ◌⊎◌, length, slice_index_or}
use Rattle.rate_table.specs.Rates.{Rates, HoldsAge, rate_at}
use Rattle.select_rates.specs.Select.{select_rates}
use Rattle.select_rates.specs.Table.{IsTableOf, select_table}
use Rattle.select_rates.specs.declared.any.AnyTable.{AnyTable}
use Rattle.select_rates.specs.declared.any.AnyTable.TheVariants.{Aggregate, Select}

-- no table holds for an issue age: the table is select, and the age is below its first select age
abbrev pub IsBelow : AnyTable → ℕ → Type 0
IsBelow (Aggregate table) age = ⊥
IsBelow (Select table) age = age < table.first_age

-- the table that holds for an issue age; for an aggregate table, that table itself
abbrev pub IsAlong : AnyTable → ℕ → Rates → Type 0
IsAlong (Aggregate table) age given = given ≡ table
IsAlong (Select table) age given = IsTableOf table age given

-- the same, as a function
abbrev pub table_along : AnyTable → ℕ → Rates
table_along (Aggregate table) age = table
table_along (Select table) age = select_table table age

-- there is a rate of an issue age at a duration, counted from 0, and this is it. For an aggregate table it is the
-- rate of the attained age; for a select table it is q_[x]+k: the select rate within the select period, and after it
-- the ultimate rate of the attained age
abbrev pub IsRateOf : AnyTable → ℕ → ℕ → ℕ → Type 0
IsRateOf (Aggregate table) age duration rate = HoldsAge table (age + duration) × (rate ≡ rate_at table (age + duration))
IsRateOf (Select table) age duration rate =
    let select = select_rates table age in
    (duration < length select ⊎ HoldsAge table.ultimate (age + duration))
    × (rate ≡ slice_index_or select duration (rate_at table.ultimate (age + duration)))
