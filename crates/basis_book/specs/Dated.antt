-- A basis: tables and rates of interest by the day of issue.
use Rattle.std.specs.Prelude.{◌≡◌, ℕ, ◌+◌, ◌≤◌, List, [], ◌∷◌, ◌++◌, length, All, Option, IsSome, ℤ, ◌<ℤ◌, ◌≤ℤ◌, unwrap_or}
use Rattle.select_rates.specs.declared.any.AnyTable.{AnyTable}
use Rattle.select_rates.specs.declared.any.AnyTable.TheVariants.{Aggregate}
use Rattle.basis_book.specs.declared.row.BasisRow.{BasisRow}

-- what holds from a day on: a table, and basis points
pub record Dated : Type 0 where
  pub from_day : ℤ
  pub table : AnyTable
  pub bp : ℕ

-- the row together with its table, as the tables have it under its name
abbrev pub dated : (List ℕ → Option AnyTable) → BasisRow → Dated
dated table_of row = record { from_day = row.from_day; table = unwrap_or (table_of row.table) (Aggregate (record { first_age = 0; rates = [] })); bp = row.bp }

-- there are at most so many rows, each with at most 2000 basis points
pub record AreBounded (rows : List BasisRow) : Type 0 where
  pub few : length rows ≤ 1000
  pub points : All (λ (row : BasisRow). row.bp ≤ 2000) rows

-- the n-th row is the first whose table isn't among the tables
pub record IsFirstMissing (table_of : List ℕ → Option AnyTable) (rows : List BasisRow) (n : ℕ) : Type 0 where
  pub before : List BasisRow
  pub row : BasisRow
  pub after : List BasisRow
  pub split : rows ≡ before ++ row ∷ after
  pub number : n ≡ length before + 1
  pub known : All (λ (other : BasisRow). IsSome (table_of other.table)) before
  pub missing : IsSome (table_of row.table) → ⊥

-- the last entry whose day isn't after the day of issue, and its place, counted from 0
pub record IsPicked (basis : List Dated) (issued : ℤ) (index : ℕ) (entry : Dated) : Type 0 where
  pub before : List Dated
  pub after : List Dated
  pub split : basis ≡ before ++ entry ∷ after
  pub place : index ≡ length before
  pub begun : entry.from_day ≤ℤ issued
  pub later : All (λ (other : Dated). issued <ℤ other.from_day) after
