-- The result for a script
use Rattle.std.specs.Prelude.{◌≡◌, ℕ, ⊤, List, Result, Ok, Err}
use Rattle.policy_types.specs.declared.script.Lane.{Lane}
use Rattle.command_csv.specs.declared.fault.ScriptFault.{ScriptFault}
use Rattle.command_csv.specs.declared.fault.ScriptFault.TheVariants.{BadRow, NoMemory}
use Rattle.command_csv.specs.Reads.{IsFirstScriptFault, Reads}

-- the only result for a script, if memory isn't refused
abbrev pub IsScriptAnswer : List ℕ → Result (List Lane) ScriptFault → Type 0
IsScriptAnswer bytes (Ok lanes) = Reads bytes lanes
IsScriptAnswer bytes (Err (BadRow row field)) = IsFirstScriptFault bytes row field
IsScriptAnswer bytes (Err (NoMemory lack)) = ⊥

-- this result is returned, unless memory was refused
abbrev pub GivesScript : Result (List Lane) ScriptFault → Result (List Lane) ScriptFault → Type 0
GivesScript (Err (NoMemory lack)) answer = ⊤
GivesScript result answer = answer ≡ result
