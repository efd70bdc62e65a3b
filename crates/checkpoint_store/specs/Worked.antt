-- Worked checkpoints, computed from the definitions alone; the bytes were packed by hand from the table of the format
use Rattle.std.specs.Prelude.{◌≡◌, ℕ, ◌++◌, List, [], ◌∷◌, map, pos, negsuc, Ok, Err}
use Rattle.memory_requests.specs.Evidence.{a_refusal}
use Rattle.checkpoint_store.specs.Names.{Command, Policy, Claimed, issued, Endowment, spelling_of}
use Rattle.policy_types.specs.declared.command.Command.TheVariants.{Issue, Upgrade}
use Rattle.checkpoint_store.specs.declared.faults.ReopenFault.TheVariants.{DiskFault, BadRecord, NoMemory}
use Rattle.checkpoint_store.specs.declared.snapshot.Snapshot.{Snapshot}
use Rattle.checkpoint_store.specs.Checkpoints.{CheckpointBytes, IsNoCheckpoint, IsSnapshotOf, IsSoundSnapshot}
use Rattle.checkpoint_store.specs.Reopening.{HasCauseOfTwo, IsReopened, IsTrueCheckpoint, IsTrueWhereUsed, TakesSteps}
use Rattle.checkpoint_store.specs.Spelling.{snapshot_bytes}

-- an endowment of 1000.00 for three years at age 0 with a premium of 400.00, number 7001, issued on 2020-01-01, of which
-- 600.00 of a claim are outstanding on 2020-07-01
abbrev pub claimed_policy : Policy
claimed_policy = record {
  id = 7001;
  plan = Endowment;
  age = 0;
  years = 3;
  amount = 100000;
  premium = 40000;
  issued = pos 18262;
  last = pos 18444;
  paid = 1;
  status = Claimed;
  outstanding = 60000;
}

-- the issue, the premium, the claim and a settlement of 400.00
abbrev pub claimed_snapshot : Snapshot
claimed_snapshot = record {
  position = 4;
  upgrade = 0;
  ledger = record { cash = pos 0; premiums = negsuc 39999; incurred = pos 100000; payable = negsuc 59999 };
  book = claimed_policy ∷ [];
}

abbrev pub claimed_bytes : List ℕ
claimed_bytes =
    0x4c ∷ 0x49 ∷ 0x46 ∷ 0x45 ∷ 0x43 ∷ 0x48 ∷ 0x4b ∷ 0x50 ∷ 0x00 ∷ 0x01 ∷ 0x00 ∷ 0x30 ∷ 0x00 ∷ 0x00 ∷ 0x00 ∷ 0x00 ∷
    0x00 ∷ 0x00 ∷ 0x00 ∷ 0x04 ∷ 0x00 ∷ 0x00 ∷ 0x00 ∷ 0x00 ∷ 0x00 ∷ 0x00 ∷ 0x00 ∷ 0x01 ∷
    0x00 ∷ 0x00 ∷ 0x00 ∷ 0x00 ∷ 0x00 ∷ 0x00 ∷ 0x00 ∷ 0x00 ∷
    0xff ∷ 0xff ∷ 0xff ∷ 0xff ∷ 0xff ∷ 0xff ∷ 0x63 ∷ 0xc0 ∷
    0x00 ∷ 0x00 ∷ 0x00 ∷ 0x00 ∷ 0x00 ∷ 0x01 ∷ 0x86 ∷ 0xa0 ∷
    0xff ∷ 0xff ∷ 0xff ∷ 0xff ∷ 0xff ∷ 0xff ∷ 0x15 ∷ 0xa0 ∷
    0x00 ∷ 0x00 ∷ 0x00 ∷
    0x00 ∷ 0x00 ∷ 0x1b ∷ 0x59 ∷ 0x03 ∷ 0x00 ∷ 0x03 ∷ 0x01 ∷ 0x03 ∷ 0x00 ∷ 0x00 ∷ 0x00 ∷
    0x00 ∷ 0x00 ∷ 0x47 ∷ 0x56 ∷ 0x00 ∷ 0x00 ∷ 0x48 ∷ 0x0c ∷
    0x00 ∷ 0x00 ∷ 0x00 ∷ 0x00 ∷ 0x00 ∷ 0x01 ∷ 0x86 ∷ 0xa0 ∷
    0x00 ∷ 0x00 ∷ 0x00 ∷ 0x00 ∷ 0x00 ∷ 0x00 ∷ 0x9c ∷ 0x40 ∷
    0x00 ∷ 0x00 ∷ 0x00 ∷ 0x00 ∷ 0x00 ∷ 0x00 ∷ 0xea ∷ 0x60 ∷
    0x00 ∷ 0x00 ∷ 0x00 ∷ 0x00 ∷ []

abbrev pub SpelledSnapshot : Type 0
SpelledSnapshot = snapshot_bytes claimed_snapshot ≡ claimed_bytes

-- it is a checkpoint behind an open gate, whatever stands behind it, and none behind a closed one
abbrev pub OpenAndClosed : Type 0
OpenAndClosed =
    CheckpointBytes (1 ∷ claimed_bytes) claimed_snapshot × CheckpointBytes (1 ∷ claimed_bytes ++ 7 ∷ 7 ∷ []) claimed_snapshot
    × IsNoCheckpoint (0 ∷ claimed_bytes) × IsNoCheckpoint (2 ∷ claimed_bytes) × IsNoCheckpoint []

-- no snapshot has a policy twice, or more policies than commands
abbrev pub UnsoundSnapshots : Type 0
UnsoundSnapshots =
    (IsSoundSnapshot (record claimed_snapshot { book = claimed_policy ∷ claimed_policy ∷ [] }) → ⊥)
    × (IsSoundSnapshot (record claimed_snapshot { position = 0 }) → ⊥)

-- the issue of that policy, an upgrade, and what each leaves
abbrev pub issue_of_7001 : Command
issue_of_7001 = Issue 7001 (pos 18262) Endowment 0 3 100000 40000

abbrev pub issued_snapshot : Snapshot
issued_snapshot = record {
  position = 1;
  upgrade = 0;
  ledger = record { cash = pos 0; premiums = pos 0; incurred = pos 0; payable = pos 0 };
  book = issued 7001 (pos 18262) Endowment 0 3 100000 40000 ∷ [];
}

abbrev pub upgraded_snapshot : Snapshot
upgraded_snapshot = record issued_snapshot { position = 2; upgrade = 2 }

abbrev pub SnapshotOfTwo : Type 0
SnapshotOfTwo = IsSnapshotOf (issue_of_7001 ∷ Upgrade ∷ []) upgraded_snapshot

-- with a checkpoint at four of five commands records are decided from there on, and from 0 where it stands above the count
-- or has a closed gate; one step a record
abbrev pub StartsByHand : Type 0
StartsByHand =
    TakesSteps (1 ∷ claimed_bytes) 5 7 8 × TakesSteps (1 ∷ claimed_bytes) 3 7 10 × TakesSteps (0 ∷ claimed_bytes) 5 7 12
    × (TakesSteps (0 ∷ claimed_bytes) 5 7 8 → ⊥)

-- a checkpoint behind the first of two commands, and their journal
abbrev pub issued_file : List ℕ
issued_file = 1 ∷ snapshot_bytes issued_snapshot

abbrev pub two_bodies : List (List ℕ)
two_bodies = map spelling_of (issue_of_7001 ∷ Upgrade ∷ [])

-- it is true of that journal, and of none that has no such front, where it isn't used
abbrev pub TrueByHand : Type 0
TrueByHand = IsTrueWhereUsed issued_file two_bodies × IsTrueWhereUsed issued_file [] × (IsTrueCheckpoint issued_file [] → ⊥)

-- the snapshot is that of both commands
abbrev pub ReopenedByHand : Type 0
ReopenedByHand =
    IsReopened issued_file two_bodies (Ok upgraded_snapshot) × (IsReopened issued_file two_bodies (Ok issued_snapshot) → ⊥)

-- a number that is issued twice is refused
abbrev pub BadByHand : Type 0
BadByHand =
    IsReopened [] (map spelling_of (issue_of_7001 ∷ issue_of_7001 ∷ [])) (Err (BadRecord 1))
    × (IsReopened [] two_bodies (Err (BadRecord 1)) → ⊥)

-- a fault of either disk has its count, which rose
abbrev pub FaultsOfTwo : Type 0
FaultsOfTwo =
    HasCauseOfTwo 0 1 3 3 (Err (DiskFault 1)) × HasCauseOfTwo 0 0 3 4 (Err (DiskFault 4))
    × (HasCauseOfTwo 0 0 3 3 (Err (DiskFault 3)) → ⊥) × (HasCauseOfTwo 0 1 3 3 (Err (NoMemory a_refusal)) → ⊥)
