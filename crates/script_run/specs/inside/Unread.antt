-- Why there is no script, and the line that says so
use Rattle.std.specs.Prelude.{ℕ, ◌<◌, ◌≤◌, List, ◌∷◌, ◌++◌, length, codes, decimal, IfSome}
use Rattle.script_run.specs.Names.{Ending, BadScript, GaveAll, GivesMore, Input, InputFault, NoMemory, Stream, WroteLine}
use Rattle.script_run.specs.declared.intake.Unread.{Unread}
use Rattle.script_run.specs.declared.intake.Unread.TheVariants.{TooLong, BadRow, ReadFault, NoMemory as OutOfMemory}
use Rattle.command_csv.specs.Reads.{IsFirstScriptFault}
use Rattle.script_run.specs.Script.{most_script_bytes}

-- the text of the first row that is no line, and of its first bad field
abbrev pub bad_row_text : ℕ → ℕ → List ℕ
bad_row_text row field = codes "badscript," ++ decimal row ++ 44 ∷ decimal field

-- the input gave more bytes in the call than a script may have; if it reports what is left in it, more was left
pub record GaveTooMany (input : Input) : Type 0 where
  pub more : GivesMore most_script_bytes input.given_before input.given_after
  pub left : IfSome input.left_before (λ told. most_script_bytes < length told)

-- it gave a script that isn't too long, up to its end, and this is its first row that is no line, and that row's first
-- bad field
pub record GaveBadRow (input : Input) (row field : ℕ) : Type 0 where
  pub bytes : List ℕ
  pub gave : GaveAll input bytes
  pub short : length bytes ≤ most_script_bytes
  pub fault : IsFirstScriptFault bytes row field

-- the line that says why there is no script
abbrev pub SaysUnread : Unread → Stream → Ending → Type 0
SaysUnread TooLong output BadScript = WroteLine output (codes "badscript,toolong")
SaysUnread (BadRow row field) output BadScript = WroteLine output (bad_row_text row field)
SaysUnread (BadRow row field) output (NoMemory lack) = WroteLine output (codes "nomemory")
SaysUnread ReadFault output InputFault = WroteLine output (codes "readfault")
SaysUnread (OutOfMemory lack) output (NoMemory other_lack) = WroteLine output (codes "nomemory")
SaysUnread _ _ _ = ⊥
