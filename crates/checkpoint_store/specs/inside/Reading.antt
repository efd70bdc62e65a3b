-- What reading the two disks tells of a fault
use Rattle.std.specs.Prelude.{◌≡◌, ℕ, MatchResult, Result}
use Rattle.memory_requests.specs.Evidence.{a_refusal}
use Rattle.checkpoint_store.specs.Names.{Ghosts, LooksOn, Rose}
use Rattle.journal_replay.specs.declared.replaying.ReplayFault.{ReplayFault}
use Rattle.journal_replay.specs.declared.replaying.ReplayFault.TheVariants as replay
use Rattle.checkpoint_store.specs.declared.faults.ReopenFault.{ReopenFault}
use Rattle.checkpoint_store.specs.declared.faults.ReopenFault.TheVariants.{DiskFault, BadRecord, NoMemory}

-- the fault at which a replay stops, as that of a reopening
abbrev pub as_reopen_fault : ReplayFault → ReopenFault
as_reopen_fault (replay.DiskFault count) = DiskFault count
as_reopen_fault (replay.BadRecord n) = BadRecord n
as_reopen_fault (replay.NoMemory lack) = NoMemory a_refusal

-- The disk of a store, which has no record, fails only with its count, which rose; any other fault leaves it.
abbrev pub HasStoreCause : ℕ → ℕ → ReopenFault → Type 0
HasStoreCause before now (DiskFault count) = (count ≡ now) × Rose before now
HasStoreCause before now (BadRecord n) = ⊥
HasStoreCause before now (NoMemory lack) = now ≡ before

abbrev pub HasReadCause : {T : Type 0} → ℕ → ℕ → Result T ReopenFault → Type 0
HasReadCause before now result = MatchResult result (λ done. now ≡ before) (λ fault. HasStoreCause before now fault)

-- A disk was only read: each fault has its cause, and where the disk is honest after it, it was so before and nothing was written.
pub record OnlyReads {D T : Type 0} (g : Ghosts D) (old new : D) (result : Result T ReopenFault) : Type 0 where
  pub cause : HasReadCause (g.faults old) (g.faults new) result
  pub honesty : g.honest new → g.honest old
  pub looks : g.honest new → LooksOn g old new
