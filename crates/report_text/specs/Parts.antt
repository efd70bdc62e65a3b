-- The rows of a valuation in parts, and what the workers write of them
use Rattle.std.specs.Prelude.{◌≡◌, ℕ, List, [], ◌∷◌, ◌++◌, Result, Ok, Err, IfOk}
use Rattle.report_text.specs.Names.{flat_map, Row}
use Rattle.memory_requests.specs.declared.evidence.NoMemory.{NoMemory}
use Rattle.report_text.specs.Block.{row_text}
use Rattle.report_text.specs.declared.printer.RowPart.{RowPart}

-- the rows of the parts, one after the other
abbrev pub rows_of_parts : List RowPart → List Row
rows_of_parts [] = []
rows_of_parts (part ∷ more) = part.rows.now ++ rows_of_parts more

-- the part's text, or memory for it was refused
abbrev pub IsTextOfPart : RowPart → Result (List ℕ) NoMemory → Type 0
IsTextOfPart part text = IfOk text (λ written. written ≡ flat_map row_text part.rows.now)

-- the text, if there is one
abbrev pub had_text : Result (List ℕ) NoMemory → List ℕ
had_text (Ok text) = text
had_text (Err lack) = []
