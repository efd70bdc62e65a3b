-- What a cache holds, and when that is right.
use Rattle.std.specs.Prelude.{◌≡◌, ℕ, ◌+◌, ◌^◌, min, ◌<◌, ◌≤◌, List, length, None, slice_get, All, Some, Ok, vec_capacity, Contains, take, ◌-◌, ◌*◌, ◌∷◌, ◌⊎◌, Option, IfSome}
use Rattle.std.specs.Map.{keys_of, lookup}
use Rattle.std.specs.Set.{remove_key}
use Rattle.policy_value.specs.contracts.key.CacheKeyPartialEq.TheImpl.{eq-value}
use Rattle.policy_value.specs.Names.{Rates, Shape, table_along, shape_of, value_to, pair_at, Pair, IsUnitFor, premium_of, Dated}
use Rattle.crvm_reserve.specs.declared.premium.Premium.{Premium}
use Rattle.policy_value.specs.Covers.{cap_along, cover_along}
use Rattle.policy_value.specs.declared.cache.ColumnCache.{ColumnCache}
use Rattle.policy_value.specs.declared.columns.ColumnStore.{ColumnStore}
use Rattle.policy_value.specs.declared.columns.KeptColumn.{KeptColumn}
use Rattle.policy_value.specs.declared.key.CacheKey.{CacheKey}
use Rattle.policy_value.specs.declared.units.KeptUnit.{KeptUnit}
use Rattle.policy_value.specs.declared.units.UnitStore.{UnitStore}

-- the row of a basis at a place, counted from 0: its table for an age at issue, and its interest
abbrev pub IsRowOf : List Dated → ℕ → ℕ → Rates → ℕ → Type 0
IsRowOf basis place issue table bp =
    (entry : Dated) × (slice_get basis place ≡ Some entry) × (table ≡ table_along entry.table issue) × (bp ≡ entry.bp)

-- the values of a column are those by this table and interest, from its lowest age on
abbrev pub HoldsValues : Rates → ℕ → List Pair → KeptColumn → Type 0
HoldsValues table bp pairs kept = (age : ℕ) → kept.lowest ≤ age → age ≤ kept.end
    → pair_at pairs (kept.first + (age - kept.lowest)) ≡ value_to table bp kept.stream kept.end age

-- a column's values are among these, and are those by its row of this basis for its age at issue
pub record IsRightColumn (basis : List Dated) (pairs : List Pair) (kept : KeptColumn) : Type 0 where
  pub ages : kept.lowest ≤ kept.end
  pub within : kept.first + (kept.end - kept.lowest) < length pairs
  pub by_row : (table : Rates) → (bp : ℕ) → IsRowOf basis kept.basis_row kept.issue table bp → HoldsValues table bp pairs kept

-- a premium is that of its key by this basis
abbrev pub IsRightPremium : List Dated → CacheKey × Premium → Type 0
IsRightPremium basis kept = (entry : Dated) → (shape : Shape) → slice_get basis kept.0.basis_row ≡ Some entry
    → shape_of kept.0.plan kept.0.age kept.0.years entry.table ≡ Ok shape
    → kept.1 ≡ premium_of (cover_along entry.table shape entry.bp) (cap_along entry.table shape.age entry.bp)

-- a unit is the reserve per unit of amount of its key, for its year, by this basis
abbrev pub IsRightUnit : List Dated → KeptUnit → Type 0
IsRightUnit basis kept = (entry : Dated) → (shape : Shape) → slice_get basis kept.key.basis_row ≡ Some entry
    → shape_of kept.key.plan kept.key.age kept.key.years entry.table ≡ Ok shape
    → IsUnitFor (cover_along entry.table shape entry.bp) (cap_along entry.table shape.age entry.bp) kept.t kept.unit

-- a place is empty, or what is there is right
abbrev pub IsRightPlace : List Dated → Option KeptUnit → Type 0
IsRightPlace basis place = IfSome place (IsRightUnit basis)

-- a store has at least one place, and capacity for as many as there may be
pub record IsUnitStore (store : UnitStore) : Type 0 where
  pub some : 1 ≤ length store.places.items
  pub few : length store.places.items ≤ store.most
  pub most : store.most ≤ 524288
  pub room : store.most ≤ vec_capacity store.places

pub record IsRightUnits (basis : List Dated) (given : UnitStore) : Type 0 where
  pub store : IsUnitStore given
  pub places : All (IsRightPlace basis) given.places.items

-- a store has capacity for its columns, and for the values of as many columns of all ages as it states
pub record IsStore (store : ColumnStore) : Type 0 where
  pub slots : length store.places.items ≡ 65536
  pub one : 1 ≤ store.most
  pub most : store.most ≤ 65535
  pub some : (1 ≤ store.most_kept) × (store.most_kept ≤ 65535)
  pub room : store.most_kept ≤ vec_capacity store.kept
  pub wide : store.most * 132 ≤ vec_capacity store.pairs

pub record IsRightStore (basis : List Dated) (given : ColumnStore) : Type 0 where
  pub store : IsStore given
  pub columns : All (IsRightColumn basis given.pairs.items) given.kept.items

-- each entry of a cache is right for its key by this basis
pub record IsRightFor (basis : List Dated) (cache : ColumnCache) : Type 0 where
  pub premiums : All (IsRightPremium basis) cache.premiums.entries
  pub columns : IsRightStore basis cache.columns
  pub units : IsRightUnits basis cache.units

-- the keys of the policies, the last used first
abbrev pub kept_keys : ColumnCache → List CacheKey
kept_keys cache = keys_of cache.premiums.entries

-- how many keys a cache keeps at most
abbrev pub most_keys : ColumnCache → ℕ
most_keys cache = cache.premiums.cap

-- the keys stay: which they are, how many there may be, and how many weren't kept
pub record KeepsKeys (old new : ColumnCache) : Type 0 where
  pub most : most_keys new ≡ most_keys old
  pub keys : kept_keys new ≡ kept_keys old
  pub unkept : new.unkept ≡ old.unkept

-- a key is the first; if there were as many keys as there may be, the last has been dropped
pub record TakesKey (key : CacheKey) (old new : ColumnCache) : Type 0 where
  pub keys : kept_keys new ≡ key ∷ take (most_keys old - 1) (kept_keys old)
  pub unkept : new.unkept ≡ old.unkept

-- memory was refused for a key: it is counted, unless the count stands still, and the keys are as before
pub record MissesKey (old new : ColumnCache) : Type 0 where
  pub keys : kept_keys new ≡ kept_keys old
  pub unkept : new.unkept ≡ min (old.unkept + 1) (2 ^ 64 - 1)

-- A key was asked for. If it was among the keys, it is now the first. If it wasn't, it was put first, or memory was
-- refused for it.
pub record HasAsked (key : CacheKey) (old new : ColumnCache) : Type 0 where
  pub most : most_keys new ≡ most_keys old
  pub hit : Contains (kept_keys old) key
      → (kept_keys new ≡ key ∷ remove_key (eq-value.it key) (kept_keys old)) × (new.unkept ≡ old.unkept)
  pub miss : (Contains (kept_keys old) key → ⊥) → TakesKey key old new ⊎ MissesKey old new

-- no premium is kept for a key
abbrev pub IsMissing : CacheKey → ColumnCache → Type 0
IsMissing key cache = lookup (eq-value.it key) cache.premiums.entries ≡ None
