use Rattle.std.specs.Prelude.{◌≡◌, ℕ, ◌+◌, ◌<◌, List, [], max, length, slice_index, slice_index_or}
use Rattle.rate_table.specs.Rates.{Rates, rate_at}
use Rattle.select_rates.specs.Select.{Selected, AreSelected}

-- the rates of an issue age by duration: the select ones, and after them the ultimate ones of the attained ages
pub record AreJoined (ultimate : Rates) (age : ℕ) (select : List ℕ) (rates : List ℕ) : Type 0 where
  pub count : age + length rates ≡ max (age + length select) (ultimate.first_age + length ultimate.rates)
  pub each : (k : ℕ) → k < length rates → slice_index rates k ≡ slice_index_or select k (rate_at ultimate (age + k))

-- the table of an issue age has these
pub record IsJoined (ultimate : Rates) (age : ℕ) (select : List ℕ) (given : Rates) : Type 0 where
  pub first : given.first_age ≡ age
  pub rates : AreJoined ultimate age select given.rates

-- the tables of the first select ages, in order
abbrev pub AreJoinedTables : Rates → ℕ → List (List ℕ) → List Rates → Type 0
AreJoinedTables ultimate first_age rows tables = (k : ℕ) (d : Rates) → k < length tables
    → IsJoined ultimate (first_age + k) (slice_index_or rows k []) (slice_index_or tables k d)

-- the tables of all select ages
pub record ArePrepared (table : Selected) (tables : List Rates) : Type 0 where
  pub selected : AreSelected table
  pub count : length tables ≡ length table.rows
  pub each : AreJoinedTables table.ultimate table.first_age table.rows tables
