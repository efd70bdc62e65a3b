-- What replaying a journal's records says of the journal, its disk and the keeper
use Rattle.std.specs.Prelude.{◌≡◌, ℕ, ◌<◌, ◌≤◌, List, [], ◌∷◌, ◌++◌, length, map, take, slice_index_or, Result, Ok, Err}
use Rattle.outside_io.specs.Faults.{Rose}
use Rattle.outside_io.specs.declared.disks.Disk.{Ghosts}
use Rattle.policy_types.specs.declared.command.Command.{Command}
use Rattle.policy_types.specs.Valid.{IsValid}
pub use Rattle.posting_journal.specs.Runs.{IsLookedAt}
pub use Rattle.posting_journal.specs.States.{StaysAs}
use Rattle.posting_journal.specs.States.{StandsFor, disk_of}
use Rattle.posting_journal.specs.declared.journal.Journal.{Journal}
use Rattle.record_codec.specs.Spelling.{spelling_of}
use Rattle.journal_replay.specs.declared.replaying.ReplayFault.{ReplayFault}
use Rattle.journal_replay.specs.declared.replaying.ReplayFault.TheVariants.{DiskFault, BadRecord, NoMemory}

-- the bodies of the commands' records
abbrev pub bodies_of : List Command → List (List ℕ)
bodies_of commands = map spelling_of commands

-- the disk didn't fail
abbrev pub IsQuiet : {D : Type 0} {g : Ghosts D} → Journal D g → D → Type 0
IsQuiet {g = g} journal disk = g.faults disk ≡ g.faults (disk_of journal)

-- it did fail, and this is its count of faults
abbrev pub HasFailed : {D : Type 0} {g : Ghosts D} → Journal D g → D → ℕ → Type 0
HasFailed {g = g} journal disk count = (count ≡ g.faults disk) × Rose (g.faults (disk_of journal)) (g.faults disk)

-- a fault of the disk has its count, which rose; any other outcome leaves the count as it was
abbrev pub HasReplayCause : {D T : Type 0} {g : Ghosts D} → Journal D g → D → Result T ReplayFault → Type 0
HasReplayCause journal disk (Ok done) = IsQuiet journal disk
HasReplayCause journal disk (Err (DiskFault count)) = HasFailed journal disk count
HasReplayCause journal disk (Err (BadRecord n)) = IsQuiet journal disk
HasReplayCause journal disk (Err (NoMemory lack)) = IsQuiet journal disk

-- the bodies of a journal have P, provided its disk is honest now, later on
abbrev pub BodiesHave : {D : Type 0} {g : Ghosts D} → Journal D g → D → (List (List ℕ) → Type 0) → Type 0
BodiesHave {g = g} journal now P =
    (bodies : List (List ℕ)) (last : List ℕ) → g.honest now → StandsFor journal bodies last → P bodies

-- they do, provided the first of them are those of these commands
abbrev pub BodiesBehind : {D : Type 0} {g : Ghosts D} → Journal D g → D → List Command → (List (List ℕ) → Type 0) → Type 0
BodiesBehind journal now commands P =
    BodiesHave journal now (λ bodies. take (length commands) bodies ≡ bodies_of commands → P bodies)

-- The first n bodies are those of commands that have Kept, provided the first of them were those of these commands.
pub record Replays {D : Type 0} {g : Ghosts D} (Kept : List Command → Type 0) (journal : Journal D g) (now : D) (n : ℕ)
    (commands : List Command) : Type 0 where
  pub later : List Command
  pub kept : Kept later
  pub counted : length later ≡ n
  pub front : BodiesBehind journal now commands (λ bodies. take n bodies ≡ bodies_of later)

-- The bodies before body n are those of commands that have Kept, and body n spells no command that can follow them.
pub record IsStoppedAt (Kept : List Command → Type 0) (Follows : List Command → Command → Type 0) (n : ℕ)
    (bodies : List (List ℕ)) : Type 0 where
  pub commands : List Command
  pub kept : Kept commands
  pub counted : length commands ≡ n
  pub within : n < length bodies
  pub front : take n bodies ≡ bodies_of commands
  pub none : (command : Command) → slice_index_or bodies n [] ≡ spelling_of command → IsValid command
      → Follows commands command → ⊥

-- commands that have Kept, and a valid one that follows them
pub record IsKeptAndOne (Kept : List Command → Type 0) (Follows : List Command → Command → Type 0) (commands : List Command) : Type 0 where
  pub before : List Command
  pub last : Command
  pub same : commands ≡ before ++ last ∷ []
  pub kept : Kept before
  pub valid : IsValid last
  pub follows : Follows before last

-- the first bodies are those of commands that are kept and of one more that can follow, provided the bodies of these
-- commands come before it
pub record IsWanting {D : Type 0} {g : Ghosts D} (Kept : List Command → Type 0) (Follows : List Command → Command → Type 0)
    (journal : Journal D g) (now : D) (commands : List Command) : Type 0 where
  pub n : ℕ
  pub behind : length commands < n
  pub replays : Replays (IsKeptAndOne Kept Follows) journal now n commands

-- what the bodies show of a fault, after those of these commands
abbrev pub Stops : {D : Type 0} {g : Ghosts D} → (List Command → Type 0) → (List Command → Command → Type 0)
    → Journal D g → D → List Command → ReplayFault → Type 0
Stops Kept Follows journal now commands (DiskFault count) = Unit {0}
Stops Kept Follows journal now commands (BadRecord n) =
    (length commands ≤ n) × BodiesBehind journal now commands (IsStoppedAt Kept Follows n)
Stops Kept Follows journal now commands (NoMemory lack) = IsWanting Kept Follows journal now commands
