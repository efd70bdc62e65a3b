-- The journal of a list of commands, as a whole file
use Rattle.std.specs.Prelude.{◌≡◌, ◌≢◌, ◌⊎◌, ℕ, List, [], ◌∷◌, ◌++◌, length, map, None}
use Rattle.office_state.specs.Names.{AllByRecursion, Command, IsValid, judge, IsAccepted, IsUnfinished, IsForeign, IsBadAt, spelling_of, IsJournal}
use Rattle.office_state.specs.declared.faults.StartCause.{StartCause}
use Rattle.office_state.specs.declared.faults.StartCause.TheVariants.{DiskFault, NotAJournal, BadRecord, NoMemory}

-- The file is the journal of these commands: they are valid, they are accepted one after the other, and its records
-- spell exactly them.
pub record JournalBytes (bytes : List ℕ) (commands : List Command) : Type 0 where
  pub records : IsJournal bytes (map spelling_of commands)
  pub valid : AllByRecursion IsValid commands
  pub accepted : IsAccepted commands

-- the file opens to these commands: it is their journal, or there are none and its creation hasn't ended
abbrev pub Opens : List ℕ → List Command → Type 0
Opens bytes commands = JournalBytes bytes commands ⊎ ((commands ≡ []) × IsUnfinished bytes)

-- there are no commands to which it opens
abbrev pub OpensToNone : List ℕ → Type 0
OpensToNone bytes = (commands : List Command) → Opens bytes commands → ⊥

-- The records before record n are those of commands, one accepted after the other, and the body of record n spells no
-- command that can follow them.
pub record IsUnfollowed (bytes : List ℕ) (n : ℕ) : Type 0 where
  pub commands : List Command
  pub body : List ℕ
  pub rest : List (List ℕ)
  pub counted : length commands ≡ n
  pub records : IsJournal bytes (map spelling_of commands ++ body ∷ rest)
  pub valid : AllByRecursion IsValid commands
  pub accepted : IsAccepted commands
  pub none : (command : Command) → body ≡ spelling_of command → IsValid command → judge commands command ≢ None

-- the file was refused for what its bytes are
abbrev pub IsOfTheFile : StartCause → Type 0
IsOfTheFile NotAJournal = Unit {0}
IsOfTheFile (BadRecord n) = Unit {0}
IsOfTheFile (DiskFault count) = ⊥
IsOfTheFile (NoMemory lack) = ⊥

-- what the bytes show of a file that wasn't opened
abbrev pub IsShown : List ℕ → StartCause → Type 0
IsShown bytes NotAJournal = IsForeign bytes
IsShown bytes (BadRecord n) = IsBadAt bytes n ⊎ IsUnfollowed bytes n
IsShown bytes (DiskFault count) = Unit {0}
IsShown bytes (NoMemory lack) = Unit {0}
