-- The fields of one row: the day from which it holds, the name of a table, and basis points.
use Rattle.std.specs.Prelude.{◌≡◌, ℕ, List, [], ◌∷◌}
use Rattle.life_dates.specs.Calendar.{IsDay}
use Rattle.life_dates.specs.DayText.{IsDayText}
use Rattle.basis_book.specs.declared.row.BasisRow.{BasisRow}
use Rattle.basis_book.specs.Name.{IsName}
use Rattle.basis_book.specs.Points.{IsPoints}

-- three fields, which spell the row
abbrev pub IsRow : List (List ℕ) → BasisRow → Type 0
IsRow (day ∷ name ∷ points ∷ []) row =
    IsDayText day row.from_day × IsDay row.from_day × IsName name × (row.table ≡ name) × IsPoints points row.bp
IsRow _ row = ⊥
