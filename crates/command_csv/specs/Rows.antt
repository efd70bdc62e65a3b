-- The rows of a script: CSV without a header row, where rows may have different lengths and an empty line is no row.
-- A byte order mark at the very start is dropped.
use Rattle.std.specs.Prelude.{ℕ, List}
use Rattle.csv.specs.Reading.{records, default_config, strip_bom}

-- each row is the list of its fields
abbrev pub rows_of : List ℕ → List (List (List ℕ))
rows_of bytes = records default_config (strip_bom bytes)
