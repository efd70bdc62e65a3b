-- What a script says: its lines, lane by lane, or the first field that doesn't fit
use Rattle.std.specs.Prelude.{◌≡◌, ℕ, zero, suc, ◌+◌, ◌-◌, ◌<◌, ◌≤◌, ◌==◌, Bool, true, false, List, [], ◌∷◌, ◌++◌, length, take, map, filter, ⊤, IsTrue}
use Rattle.std.specs.Int.{IsInRange}
use Rattle.command_csv.specs.Names.{AllZip, Now, Position, Line, Post, Value, Trim, Lane, IsValid, IsCommandDay}
use Rattle.policy_types.specs.Limits.{most_commands}
use Rattle.command_csv.specs.declared.row.ClerkLine.{ClerkLine}
use Rattle.command_csv.specs.Rows.{rows_of}
use Rattle.command_csv.specs.Spelling.{row_fields}

-- the lanes are numbered from 1 to this
abbrev pub last_lane : ℕ
last_lane = 8

-- the most valuations that a script may ask for
abbrev pub most_valuations : ℕ
most_valuations = 16

-- The lines that a script may hold: postings of valid commands, valuations, and trims. The position of a valuation is
-- the end of the list of accepted commands, or a number of commands that the list may reach; it has at most 64
-- workers.
abbrev pub IsScriptLine : Line → Type 0
IsScriptLine (Post command) = IsValid command
IsScriptLine (Value on at workers) =
    IsCommandDay on × elim at [ Now ↦ ⊤ | Position n ↦ n ≤ most_commands ] × IsInRange 1 64 workers
IsScriptLine Trim = ⊤

-- such a line, of a lane
pub record IsClerkLine (entry : ClerkLine) : Type 0 where
  pub clerk_in : IsInRange 1 last_lane entry.clerk
  pub right : IsScriptLine entry.line

abbrev pub is_valuation : Line → Bool
is_valuation (Value on at workers) = true
is_valuation _ = false

-- how many of the lines are valuations
abbrev pub valuations_in : List Line → ℕ
valuations_in lines = length (filter is_valuation lines)

-- each row, which is a list of fields, is that of a line, and the lines hold no more valuations than there may be
pub record AreLineRows (rows : List (List (List ℕ))) (entries : List ClerkLine) : Type 0 where
  pub each : AllZip (λ row (entry : ClerkLine). IsClerkLine entry × (row ≡ row_fields entry)) rows entries
  pub few : valuations_in (map (λ (entry : ClerkLine). entry.line) entries) ≤ most_valuations

-- a lane's lines among all, in order
abbrev pub lines_of : ℕ → List ClerkLine → List Line
lines_of clerk entries =
    map (λ (entry : ClerkLine). entry.line) (filter (λ (entry : ClerkLine). entry.clerk == clerk) entries)

-- the lanes with the numbers from 1 to this one, in order; a number without lines has no lane
abbrev pub lanes_up_to : ℕ → List ClerkLine → List Lane
lanes_up_to zero entries = []
lanes_up_to (suc clerk) entries =
    lanes_up_to clerk entries
    ++ elim (lines_of (suc clerk) entries) [
      | [] ↦ []
      | line ∷ lines ↦ record { number = suc clerk; lines = line ∷ lines } ∷ []
    ]

-- the rows are these lines', and these are the lanes that they make
pub record Reads (bytes : List ℕ) (lanes : List Lane) : Type 0 where
  pub entries : List ClerkLine
  pub rows : AreLineRows (rows_of bytes) entries
  pub by_clerk : lanes ≡ lanes_up_to last_lane entries

-- The first fields, up to this place, are those of the row of some line that may come after so many valuations: a
-- further valuation may come only if there are fewer than there may be. Places are counted from 1; if the fields end
-- before the place, the row of that line ends there too.
pub record FitsUpTo (valued : ℕ) (fields : List (List ℕ)) (place : ℕ) : Type 0 where
  pub entry : ClerkLine
  pub allowed : IsClerkLine entry
  pub room : IsTrue (is_valuation entry.line) → valued < most_valuations
  pub same : take place fields ≡ take place (row_fields entry)

-- The first place whose field doesn't fit: the row of some line has all fields before it, and no row of a line has
-- these and the field at the place. So a missing field doesn't fit, and neither does one after the last. Whether a
-- field fits may depend on those before it, as years depend on the plan and the age.
pub record IsFirstBadField (valued : ℕ) (fields : List (List ℕ)) (place : ℕ) : Type 0 where
  pub before : FitsUpTo valued fields (place - 1)
  pub bad : ¬ FitsUpTo valued fields place

-- the first row, counted from 1, that no line has after the valuations before it, and its first field that doesn't
-- fit
pub record IsFirstScriptFault (bytes : List ℕ) (row field : ℕ) : Type 0 where
  pub before : List (List (List ℕ))
  pub faulty : List (List ℕ)
  pub after : List (List (List ℕ))
  pub rows : rows_of bytes ≡ before ++ faulty ∷ after
  pub number : row ≡ length before + 1
  pub entries : List ClerkLine
  pub right : AreLineRows before entries
  pub bad : IsFirstBadField (valuations_in (map (λ (entry : ClerkLine). entry.line) entries)) faulty field
