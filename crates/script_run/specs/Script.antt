-- The script that the input gave, and how a run without one ends
use Rattle.std.specs.Prelude.{ℕ, ◌<◌, ◌≤◌, ◌⊎◌, Bool, List, ◌∷◌, ◌++◌, length, codes, decimal, IfSome}
use Rattle.script_run.specs.Names.{list_any, Rose, GivesMore, Lane, GaveAll, Input, Stream, WroteLine, Ending, BadScript, ReadFault, NoMemory}
use Rattle.command_csv.specs.Reads.{Reads, IsFirstScriptFault, is_valuation}

abbrev pub most_script_bytes : ℕ
most_script_bytes = 16777216

-- the script isn't too long, and is read as these lanes
abbrev pub IsReadAs : List ℕ → List Lane → Type 0
IsReadAs bytes lanes = (length bytes ≤ most_script_bytes) × Reads bytes lanes

-- a line of a lane asks for values
abbrev pub asks_for_values : List Lane → Bool
asks_for_values lanes = list_any (λ (lane : Lane). list_any is_valuation lane.lines) lanes

abbrev pub IsReadable : List ℕ → Type 0
IsReadable bytes = (lanes : List Lane) × IsReadAs bytes lanes

-- the script is too long, or has a row that is no line
abbrev pub IsUnreadable : List ℕ → Type 0
IsUnreadable bytes = (most_script_bytes < length bytes) ⊎ ((row : ℕ) × ((field : ℕ) × IsFirstScriptFault bytes row field))

-- The input gave more bytes in the call than a script may have, and if it reports what is left in it, more was left;
-- or it gave a script that isn't too long, up to its end, and the line names the first row that is no line, and that
-- row's first bad field.
abbrev pub IsRefused : Input → Stream → Type 0
IsRefused input output =
    (GivesMore most_script_bytes input.given_before input.given_after
    × IfSome input.left_before (λ told. most_script_bytes < length told) × WroteLine output (codes "badscript,toolong"))
    ⊎ ((bytes : List ℕ) × GaveAll input bytes × (length bytes ≤ most_script_bytes)
    × ((row : ℕ) × ((field : ℕ) × IsFirstScriptFault bytes row field
    × WroteLine output (codes "badscript," ++ decimal row ++ 44 ∷ decimal field))))

-- how a run ends that read no script
abbrev pub EndsUnread : Input → Stream → Ending → Type 0
EndsUnread input output BadScript = IsRefused input output
EndsUnread input output ReadFault =
    Rose input.faults_before input.faults_after × WroteLine output (codes "readfault")
EndsUnread input output (NoMemory lack) = WroteLine output (codes "nomemory")
EndsUnread _ _ _ = ⊥
