-- How a line of a script is written: the fields of its row
use Rattle.std.specs.Prelude.{ℕ, List, [], ◌∷◌, codes, decimal}
use Rattle.policy_types.specs.Valid.{id_of}
use Rattle.policy_types.specs.Words.{kind_word}
use Rattle.text_lines.specs.Fields.{entry_fields}
use Rattle.command_csv.specs.Names.{Upgrade, Now, Position, Line, Post, Value, Trim, day_text}
use Rattle.command_csv.specs.declared.row.ClerkLine.{ClerkLine}

-- a line of lane 1
abbrev pub by_first : Line → ClerkLine
by_first line = record { clerk = 1; line = line }

-- The fields of a line after the lane's number. For a posting these are the kind, the policy's number if the command
-- names a policy, the day, and the rest of the command: whole numbers without leading zeros, days as YYYY-MM-DD,
-- amounts with a point and two digits. For a valuation they are the day, the position and the workers.
abbrev pub line_fields : Line → List (List ℕ)
line_fields (Post Upgrade) = codes "upgrade" ∷ []
line_fields (Post command) = kind_word command ∷ decimal (id_of command) ∷ entry_fields command
line_fields (Value on at workers) =
    codes "value" ∷ day_text on ∷ elim at [ Now ↦ codes "now" | Position n ↦ decimal n ] ∷ decimal workers ∷ []
line_fields Trim = codes "trim" ∷ []

-- the fields of a row: the lane's number, and then those of the line
abbrev pub row_fields : ClerkLine → List (List ℕ)
row_fields entry = decimal entry.clerk ∷ line_fields entry.line
