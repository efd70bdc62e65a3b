-- The rows of a file: CSV without a header row, where rows may have different lengths and an empty
-- line is no row. A byte order mark at the very start is dropped.
use Rattle.std.specs.Prelude.{ℕ, ⊤, ◌≤◌, List, length, ◌≡◌, Result, Ok, Err}
use Rattle.csv.specs.Reading.{AreRecords, default_config, strip_bom}
use Rattle.csv.specs.declared.parser.State.TheVariants as st
use Rattle.basis_book.specs.declared.row.BasisRow.{BasisRow}
use Rattle.basis_book.specs.declared.fault.BasisFault.{BasisFault}
use Rattle.basis_book.specs.declared.fault.BasisFault.TheVariants.{NoMemory}
use Rattle.basis_book.specs.Rows.{AreRows, IsRowsFault}

-- the rows of a file, each the list of its fields
abbrev pub HasRows : List ℕ → List (List (List ℕ)) → Type 0
HasRows bytes rows = AreRecords default_config st.StartRecord (strip_bom bytes) rows

-- the file is a valid basis file, and these are its rows
abbrev pub IsBasisFile : List ℕ → List BasisRow → Type 0
IsBasisFile bytes found = (rows : List (List (List ℕ))) × HasRows bytes rows × (length rows ≤ 1000) × AreRows rows found

-- the file has this fault. Memory may be refused for any file.
abbrev pub IsFileFault : List ℕ → BasisFault → Type 0
IsFileFault bytes (NoMemory lack) = ⊤
IsFileFault bytes fault = (rows : List (List (List ℕ))) × HasRows bytes rows × IsRowsFault rows fault

-- the only result for a file, if memory isn't refused
abbrev pub IsBookAnswer : List ℕ → Result (List BasisRow) BasisFault → Type 0
IsBookAnswer bytes (Ok found) = IsBasisFile bytes found
IsBookAnswer bytes (Err (NoMemory lack)) = ⊥
IsBookAnswer bytes (Err fault) = IsFileFault bytes fault

-- what is given is this answer, unless memory was refused
abbrev pub GivesBook : Result (List BasisRow) BasisFault → Result (List BasisRow) BasisFault → Type 0
GivesBook (Err (NoMemory lack)) answer = ⊤
GivesBook result answer = answer ≡ result
