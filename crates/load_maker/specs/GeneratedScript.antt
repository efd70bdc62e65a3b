-- The text of the generator's script
use Rattle.std.specs.Prelude.{ℕ, List, decimal}
use Rattle.std.specs.List.{flat_map}
use Rattle.text_lines.specs.Lines.{line_of}
use Rattle.command_csv.specs.Spelling.{line_fields}
use Rattle.command_csv.specs.declared.row.ClerkLine.{ClerkLine}
use Rattle.load_maker.specs.GeneratedRows.{generated_rows}

-- the text of the rows of policies 1 to n: a row's fields, between commas, in a line
unfoldable pub generated_text : (seed lanes n : ℕ) → List ℕ
generated_text seed lanes n =
    flat_map (λ (row : ClerkLine). line_of (decimal row.clerk) (line_fields row.line)) (generated_rows seed lanes n)
