-- What is kept of the rows that have come so far.
use Rattle.std.specs.Prelude.{◌≡◌, ℕ, ◌≤◌, List, length, min, Some, None}
use Rattle.basis_book.specs.declared.reading.Reading.{Reading}
use Rattle.basis_book.specs.declared.fault.BasisFault.{BasisFault}
use Rattle.basis_book.specs.Rows.{AreRows, IsRowsFault}

-- their number, up to 1,001; and, if there are at most 1,000, the basis rows or the first fault
pub record Judged (rows : List (List (List ℕ))) (reading : Reading) : Type 0 where
  pub count : reading.count ≡ min (length rows) 1001
  pub right : length rows ≤ 1000 → reading.fault ≡ None → AreRows rows reading.found.items
  pub wrong : (fault : BasisFault) → length rows ≤ 1000 → reading.fault ≡ Some fault → IsRowsFault rows fault
