-- Which bytes are a checkpoint, and of which snapshot
use Rattle.std.specs.Prelude.{◌≡◌, nat_eq, ℕ, ◌*◌, ◌≤◌, List, length, map, take, drop, slice_index}
use Rattle.checkpoint_store.specs.Names.{AllByRecursion, IsDistinct, balances, book, upgrade_of, IsSound, AreWithin, most_commands, Command, Policy}
use Rattle.policy_machine.specs.Accounts.{ledger_of}
use Rattle.checkpoint_store.specs.declared.snapshot.Snapshot.{Snapshot}
use Rattle.checkpoint_store.specs.Spelling.{snapshot_bytes}

-- What holds of every snapshot of a journal: there are no more policies than commands, and no balance is above 4 * 10^10 cents
-- for each command, on either side; each policy is sound, and their numbers differ.
pub record IsSoundSnapshot (s : Snapshot) : Type 0 where
  pub position_in : s.position ≤ most_commands
  pub upgrade_in : s.upgrade ≤ s.position
  pub policies_in : length s.book ≤ s.position
  pub balances_in : AreWithin (40000000000 * s.position) (balances s.ledger)
  pub sound : AllByRecursion IsSound s.book
  pub distinct : IsDistinct nat_eq (map (λ (p : Policy). p.id) s.book)

-- The file is a checkpoint, and this is its snapshot: its bytes stand behind an open gate. What stands behind the last policy has
-- no meaning.
pub record CheckpointBytes (file : List ℕ) (s : Snapshot) : Type 0 where
  pub opened : slice_index file 0 ≡ 1
  pub spelled : take (length (snapshot_bytes s)) (drop 1 file) ≡ snapshot_bytes s
  pub sound : IsSoundSnapshot s

-- the file is a checkpoint of no snapshot
abbrev pub IsNoCheckpoint : List ℕ → Type 0
IsNoCheckpoint file = (s : Snapshot) → CheckpointBytes file s → ⊥

-- the snapshot is the one that these commands leave
pub record IsSnapshotOf (commands : List Command) (s : Snapshot) : Type 0 where
  pub position : s.position ≡ length commands
  pub upgrade : s.upgrade ≡ upgrade_of commands
  pub ledger : balances s.ledger ≡ ledger_of commands
  pub policies : s.book ≡ book commands
