-- What is known while the records of a file are counted, and if it isn't opened.
use Rattle.std.specs.Prelude.{◌≡◌, ◌⊎◌, ℕ, ◌+◌, ◌<◌, ◌≤◌, List, length, slice_index, Result, IfErr, OnOk}
use Rattle.posting_journal.specs.Names.{Rose, Ghosts}
use Rattle.policy_types.specs.Limits.{most_commands}
use Rattle.posting_journal.specs.Layout.{gate_place}
use Rattle.posting_journal.specs.Files.{IsClosed}
use Rattle.posting_journal.specs.Creation.{IsForeign, IsBadAt}
use Rattle.posting_journal.specs.declared.faults.Unopened.{Unopened}
use Rattle.posting_journal.specs.declared.faults.Unopened.TheVariants.{Unread, NotAJournal, BadRecord}

-- a file is unread only if the count of faults rose; any other cause leaves the count as it was
abbrev pub TellsCount : ℕ → ℕ → Unopened → Type 0
TellsCount before now Unread = Rose before now
TellsCount before now cause = now ≡ before

-- a disk stays honest, or stays dishonest
pub record HasUnopenedCause {D T : Type 0} (g : Ghosts D) (old new : D) (result : Result T Unopened) : Type 0 where
  pub later : g.faults old ≤ g.faults new
  pub failed : IfErr result (TellsCount (g.faults old) (g.faults new))
  pub succeeded : OnOk result (g.faults new ≡ g.faults old)
  pub honesty : g.honest new → g.honest old

-- an open record that is damaged: its body or the gate after it is past the end, or it is one too many
abbrev pub CannotStand : List ℕ → ℕ → Type 0
CannotStand bytes n = (length bytes ≤ gate_place (n + 1)) ⊎ (n ≡ most_commands)

-- the gates before that of record n are open, and their records stand
pub record AreOpen (bytes : List ℕ) (n : ℕ) : Type 0 where
  pub gates : (k : ℕ) → k < n → slice_index bytes (gate_place k) ≡ 1
  pub long : gate_place n < length bytes
  pub few : n ≤ most_commands

-- exactly n records come before a closed gate
pub record EndsAt (bytes : List ℕ) (n : ℕ) : Type 0 where
  pub gates : (k : ℕ) → k < n → slice_index bytes (gate_place k) ≡ 1
  pub end : IsClosed bytes n

-- record n has an open gate and can't stand
abbrev pub CantStand : List ℕ → ℕ → Unopened → Type 0
CantStand bytes n Unread = Unit {0}
CantStand bytes n NotAJournal = ⊥
CantStand bytes n (BadRecord m) = (m ≡ n) × (slice_index bytes (gate_place n) ≡ 1) × CannotStand bytes n

-- the records before it stand
abbrev pub IsBadFrom : List ℕ → Unopened → Type 0
IsBadFrom bytes Unread = Unit {0}
IsBadFrom bytes NotAJournal = ⊥
IsBadFrom bytes (BadRecord n) = AreOpen bytes n × (slice_index bytes (gate_place n) ≡ 1) × CannotStand bytes n

-- what the bytes show of a file that wasn't opened
abbrev pub ShowsWhy : List ℕ → Unopened → Type 0
ShowsWhy bytes Unread = Unit {0}
ShowsWhy bytes NotAJournal = IsForeign bytes
ShowsWhy bytes (BadRecord n) = IsBadAt bytes n
