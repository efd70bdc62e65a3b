-- Where the table of each row is among the tables.
use Rattle.std.specs.Prelude.{◌≡◌, ℕ, List, map, Option}
use Rattle.select_rates.specs.declared.any.AnyTable.{AnyTable}
use Rattle.basis_book.specs.declared.row.BasisRow.{BasisRow}

-- as many places as rows, and at each the table that the name of its row has
abbrev pub ArePlaces : (ℕ → Option AnyTable) → (List ℕ → Option AnyTable) → List BasisRow → List ℕ → Type 0
ArePlaces table_at table_of rows places = map table_at places ≡ map (λ (row : BasisRow). table_of row.table) rows
