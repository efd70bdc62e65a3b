-- When each fault may be returned
use Rattle.std.specs.Prelude.{ℕ, List}
use Rattle.command_csv.specs.declared.fault.ScriptFault.{ScriptFault}
use Rattle.command_csv.specs.declared.fault.ScriptFault.TheVariants.{BadRow, NoMemory}
use Rattle.command_csv.specs.Reads.{IsFirstScriptFault}

-- a bad row and field are the first of the script; memory may be refused for any bytes
abbrev pub HasScriptCause : List ℕ → ScriptFault → Type 0
HasScriptCause bytes (BadRow row field) = IsFirstScriptFault bytes row field
HasScriptCause bytes (NoMemory lack) = Unit {0}
