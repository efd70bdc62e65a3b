-- Those alive of an age, as a path holds them.
use Rattle.std.specs.Prelude.{◌≡◌, ℕ, ◌+◌, ◌*◌, ◌%◌, ◌<◌, ◌≤◌, List, length, All, slice_index_or, slice_get, Some}
use Rattle.cash_projection.specs.Names.{Rates, rate_at, table_along, AnyTable, down, up, pair_of, pair_at, Pair, Dated}
use Rattle.cash_projection.specs.Survival.{alive_by, dying_by}
use Rattle.cash_projection.specs.declared.path.SurvivalPath.{SurvivalPath}
use Rattle.cash_projection.specs.declared.path.PathKey.{PathKey}
use Rattle.cash_projection.specs.declared.paths.Paths.{Paths}

-- the rates of death from an age on
abbrev pub rates_after : Rates → ℕ → ℕ → ℕ
rates_after table age j = rate_at table (age + j)

abbrev pub alive_pair : (ℕ → ℕ) → ℕ → Pair
alive_pair rates j = pair_of (alive_by down rates j) (alive_by up rates j)

abbrev pub dying_pair : (ℕ → ℕ) → ℕ → Pair
dying_pair rates j = pair_of (dying_by down rates j) (dying_by up rates j)

-- so many years are known
pub record KnowsYears (rates : ℕ → ℕ) (count : ℕ) (living dead : List Pair) : Type 0 where
  pub alive_places : length living ≡ 132
  pub dying_places : length dead ≡ 132
  pub alive : (j : ℕ) → j ≤ count → pair_at living j ≡ alive_pair rates j
  pub dying : (j : ℕ) → j < count → pair_at dead j ≡ dying_pair rates j

-- the years to the end of the table are known
pub record IsSurvivalPath (table : Rates) (age : ℕ) (path : SurvivalPath) : Type 0 where
  pub years : ℕ
  pub whole : age + years ≡ table.first_age + length table.rates
  pub knows : KnowsYears (rates_after table age) years path.alive path.dying

-- the table of a row of a basis, counted from 0
abbrev pub IsTableOfRow : List Dated → ℕ → AnyTable → Type 0
IsTableOfRow basis row table = (entry : Dated) × (slice_get basis row ≡ Some entry) × (table ≡ entry.table)

-- its rates for the age at issue of a key
abbrev pub AreRatesOf : List Dated → PathKey → Rates → Type 0
AreRatesOf basis key rates = (entry : Dated) × (slice_get basis key.row ≡ Some entry) × (rates ≡ table_along entry.table key.issue)

-- a path that is of an age is that of its key, by its row of the basis
abbrev pub IsRightPath : List Dated → SurvivalPath → Type 0
IsRightPath basis path = path.key.age ≤ 130 → (rates : Rates) → AreRatesOf basis path.key rates → IsSurvivalPath rates path.key.age path

-- the store has at least one place, and each path that is kept is right by the basis
pub record ArePaths (basis : List Dated) (paths : Paths) : Type 0 where
  pub some : 1 ≤ length paths.kept.items
  pub right : All (IsRightPath basis) paths.kept.items

-- the path of an age is at a place
pub record IsPathAt (table : Rates) (age : ℕ) (kept : List SurvivalPath) (place : ℕ) : Type 0 where
  pub within : place < length kept
  pub here : (none : SurvivalPath) → IsSurvivalPath table age (slice_index_or kept place none)

-- the path of a key is at a place
abbrev pub IsPathKept : List SurvivalPath → PathKey → ℕ → Type 0
IsPathKept kept key place = (none : SurvivalPath) → (slice_index_or kept place none).key ≡ key

-- the place of a key, among so many
abbrev pub path_slot : PathKey → ℕ → ℕ
path_slot key count = (key.row * 131 + key.issue * 17 + key.age) % count
