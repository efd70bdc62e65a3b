-- Abbreviations for the promises of single functions, and for the proofs
use Rattle.std.specs.Prelude.{◌≡◌, ℕ, ◌<◌, ◌≤◌, List, [], ◌∷◌, map, codes, decimal, ⊤, IsTrue}
use Rattle.std.specs.Int.{IsInRange}
use Rattle.policy_types.specs.Limits.{most_commands}
use Rattle.policy_types.specs.declared.command.Command.{Command}
use Rattle.command_csv.specs.Names.{At, Now, Position, Line, Post, Lane}
use Rattle.command_csv.specs.declared.row.ClerkLine.{ClerkLine}
use Rattle.command_csv.specs.Reads.{IsClerkLine, is_valuation, last_lane, lanes_up_to, most_valuations}
use Rattle.command_csv.specs.Spelling.{line_fields, row_fields}

abbrev pub IsClerk : ℕ → Type 0
IsClerk clerk = IsInRange 1 last_lane clerk

abbrev pub IsPosition : At → Type 0
IsPosition at = elim at [ Now ↦ ⊤ | Position n ↦ n ≤ most_commands ]

abbrev pub AreWorkers : ℕ → Type 0
AreWorkers workers = IsInRange 1 64 workers

abbrev pub at_text : At → List ℕ
at_text at = elim at [ Now ↦ codes "now" | Position n ↦ decimal n ]

abbrev pub command_fields : Command → List (List ℕ)
command_fields command = line_fields (Post command)

-- the row is the line's
abbrev pub IsLineRow : List (List ℕ) → ClerkLine → Type 0
IsLineRow row entry = IsClerkLine entry × (row ≡ row_fields entry)

-- a line may stand after so many valuations
abbrev pub MayStandBehind : ℕ → Line → Type 0
MayStandBehind valued line = IsTrue (is_valuation line) → valued < most_valuations

abbrev pub all_lines : List ClerkLine → List Line
all_lines entries = map (λ (entry : ClerkLine). entry.line) entries

-- a lane with these lines; without lines there is no lane
abbrev pub lane_of : ℕ → List Line → List Lane
lane_of clerk lines = elim lines [
  | [] ↦ []
  | line ∷ lines ↦ record { number = clerk; lines = line ∷ lines } ∷ []
]

abbrev pub lanes_of : List ClerkLine → List Lane
lanes_of entries = lanes_up_to last_lane entries
