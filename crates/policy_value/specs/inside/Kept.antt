-- The stores of columns and of units.
use Rattle.std.specs.Prelude.{◌≡◌, ℕ, ◌+◌, ◌-◌, ◌*◌, ◌%◌, ◌<◌, ◌≤◌, ◌⊎◌, List, Some, length, slice_get, slice_index_or}
use Rattle.policy_value.specs.Names.{Rates, value_to, pair_at, Pair}
use Rattle.present_value.specs.declared.column.Stream.{Stream}
use Rattle.present_value.specs.declared.column.Stream.TheVariants.{Insurance, Endowment, Annuity}
use Rattle.policy_value.specs.declared.columns.ColumnKey.{ColumnKey}
use Rattle.policy_value.specs.declared.columns.ColumnStore.{ColumnStore}
use Rattle.policy_value.specs.declared.columns.KeptColumn.{KeptColumn}
use Rattle.policy_value.specs.declared.key.CacheKey.{CacheKey}
use Rattle.policy_value.specs.declared.units.KeptUnit.{KeptUnit}
use Rattle.policy_value.specs.declared.units.UnitStore.{UnitStore}
use Rattle.policy_value.specs.Keys.{plan_number}

-- the column is that of a key, and has the value at an age
abbrev pub HasAge : KeptColumn → ColumnKey → ℕ → Type 0
HasAge kept key age =
    (kept.basis_row ≡ key.basis_row) × (kept.issue ≡ key.issue) × (kept.stream ≡ key.stream) × (kept.end ≡ key.end) × (kept.lowest ≤ age)

-- after other values come those of a stream until an age, from the lowest age to below this one
pub record HasPut (table : Rates) (bp : ℕ) (stream : Stream) (end lowest below : ℕ) (old new : List Pair) : Type 0 where
  pub count : length new ≡ length old + (below - lowest)
  pub before : (k : ℕ) → k < length old → pair_at new k ≡ pair_at old k
  pub values : (age : ℕ) → lowest ≤ age → age < below → pair_at new (length old + (age - lowest)) ≡ value_to table bp stream end age

-- the column of a key that has the value at an age is at a place
pub record HasAgeAt (columns : List KeptColumn) (place : ℕ) (key : ColumnKey) (age : ℕ) : Type 0 where
  pub within : place < length columns
  pub here : (none : KeptColumn) → HasAge (slice_index_or columns place none) key age

-- the store has capacity for one more column
pub record HasColumnRoom (store : ColumnStore) : Type 0 where
  pub few : length store.kept.items < store.most_kept
  pub values : length store.pairs.items + 132 ≤ store.most * 132

-- a number for each kind of payment
abbrev pub stream_number : Stream → ℕ
stream_number Insurance = 0
stream_number Endowment = 1
stream_number Annuity = 2

-- the slot that says where the column of a key is
abbrev pub slot_of : ColumnKey → ℕ
slot_of key = (((key.basis_row * 41 + key.issue) * 3 + stream_number key.stream) * 132 + key.end) % 65536

-- the column of a key that has the value at an age is at a place, and the key's slot says so
pub record IsAtSlot (store : ColumnStore) (key : ColumnKey) (age place : ℕ) : Type 0 where
  pub written : slice_get store.places.items (slot_of key) ≡ Some place
  pub lies : HasAgeAt store.kept.items place key age

-- the reserve per unit of amount of a key at year t
abbrev pub kept_unit : CacheKey → ℕ → Pair → KeptUnit
kept_unit key t unit = record { key = key; t = t; unit = unit }

-- the place, among so many, of the unit of a key at year t
abbrev pub unit_place : CacheKey → ℕ → ℕ → ℕ
unit_place key t count = ((((4 * key.basis_row + plan_number key.plan) * 131 + key.age) * 131 + key.years) * 131 + t) % count

-- the unit is kept
abbrev pub HoldsUnit : UnitStore → CacheKey → ℕ → Pair → Type 0
HoldsUnit store key t unit =
    slice_get store.places.items (unit_place key t (length store.places.items)) ≡ Some (Some (kept_unit key t unit))

-- at most half of the places were filled since there are so many, or there may be no more
abbrev pub HasUnitRoom : UnitStore → Type 0
HasUnitRoom store = (store.most ≤ length store.places.items) ⊎ (2 * store.put ≤ length store.places.items)
