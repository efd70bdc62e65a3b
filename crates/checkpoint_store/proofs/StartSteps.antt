-- From where records are decided, and what stands there.
use Rattle.checkpoint_store.proofs.Names.{◌≡◌, ℕ, ◌≤◌, List, [], length, take, sym, ap, refl, ◌∙◌, subst, None, Err, arith, Ghosts, judge, Command, Front, NumberedBooks, Snapshot, CheckpointBytes, AreDecided, IsReopened, IsSnapshotOfAll, IsSnapshotOfFront, IsSnapshotRead, IsStartOf, AreBooksOf, as_snapshot}
use Rattle.posting_journal.specs.States.{StandsFor, count_of}
use Rattle.posting_journal.specs.declared.journal.Journal.{Journal}
use Rattle.journal_replay.specs.Keeping.{AreKept}
use Rattle.journal_replay.specs.Replays.{Replays, Stops, bodies_of}
use Rattle.journal_replay.specs.declared.replaying.ReplayFault.{ReplayFault}
use Rattle.journal_replay.specs.declared.replaying.ReplayFault.TheVariants as replay
use Rattle.journal_replay.proofs.ReplaySteps.{Stops-wider, all_replayed}
use Rattle.checkpoint_store.specs.declared.faults.ReopenFault.{ReopenFault}
use Rattle.checkpoint_store.specs.declared.faults.ReopenFault.TheVariants.{DiskFault, BadRecord, NoMemory}
use Rattle.checkpoint_store.specs.inside.Reading.{HasStoreCause, as_reopen_fault}
use Rattle.checkpoint_store.proofs.InStore.{checkpoint_parts, front_for, front_range}
use Rattle.checkpoint_store.proofs.Reading.{front_read}

-- no file is the checkpoint of two positions
pub one_front : (file : List ℕ) (s t : Snapshot) → CheckpointBytes file s → CheckpointBytes file t → front_for s ≡ front_for t
one_front file s t is_s is_t =
    let of_s = checkpoint_parts file s is_s in
    let of_t = checkpoint_parts file t is_t in
    sym (front_read (take 64 file) (front_for s) (front_range s is_s.sound) of_s.front.spelled)
    ∙ front_read (take 64 file) (front_for t) (front_range t is_t.sound) of_t.front.spelled

pub start_found : (file : List ℕ) (count : ℕ) (books : NumberedBooks) → CheckpointBytes file (as_snapshot books) → books.position ≤ count → IsStartOf file count books.position
start_found file count books is within = record {
  found = λ s is_s le. ap (λ (f : Front). f.position) (one_front file (as_snapshot books) s is is_s);
  none = λ nothing. absurd (nothing (as_snapshot books) is within);
}

pub start_none : (file : List ℕ) (count : ℕ) (books : NumberedBooks) → ((s : Snapshot) → CheckpointBytes file s → s.position ≤ count → ⊥)
    → AreBooksOf [] books → IsStartOf file count books.position
start_none file count books nothing of = record {
  found = λ s is le. absurd (nothing s is le);
  none = λ absent. of.snapshot.position;
}

-- the books of no command
pub front_none : (bodies : List (List ℕ)) (books : NumberedBooks) → AreBooksOf [] books → IsSnapshotOfFront bodies (as_snapshot books)
front_none bodies books of = record {
  commands = [];
  spelled = ap (λ n. take n bodies) of.snapshot.position;
  valid = tt;
  accepted = of.accepted;
  snapshot = of.snapshot;
}

-- what reopening shows of a fault of the store, and of one in the records
pub not_begun : (file : List ℕ) (bodies : List (List ℕ)) (before now : ℕ) (fault : ReopenFault) → HasStoreCause before now fault → IsReopened file bodies (Err fault)
not_begun file bodies before now (DiskFault count) cause = tt
not_begun file bodies before now (BadRecord n) cause = absurd cause
not_begun file bodies before now (NoMemory lack) cause = tt

-- the records from the books' position on, where the books are those of the front
module _ {D : Type 0} {g : Ghosts D} (journal : Journal D g) (now : D) (bodies : List (List ℕ)) (last : List ℕ) (honest : g.honest now)
    (stands : StandsFor journal bodies last) (before : NumberedBooks) (front : IsSnapshotOfFront bodies (as_snapshot before)) where
  abbrev commands : List Command
  commands = front.commands

  -- the front is theirs
  pub front_books : AreBooksOf commands before
  front_books = record { valid = front.valid; accepted = front.accepted; snapshot = front.snapshot }

  first : take (length commands) bodies ≡ bodies_of commands
  first = ap (λ n. take n bodies) (sym front.snapshot.position) ∙ front.spelled

  -- with all of them replayed the books are those of all bodies
  pub all_reopened : (after : NumberedBooks) → Replays (λ commands. AreBooksOf commands after) journal now (count_of journal) commands
      → IsSnapshotOfAll bodies (as_snapshot after)
  all_reopened after all = record {
    commands = all.later;
    spelled = all_replayed (λ commands. AreBooksOf commands after) journal now commands all bodies last honest stands first;
    valid = all.kept.valid;
    accepted = all.kept.accepted;
    snapshot = all.kept.snapshot;
  }

  -- what the bodies show of a fault
  pub fault_shown : (file : List ℕ) (fault : ReplayFault) → IsStartOf file (length bodies) before.position
      → Stops (AreKept (λ (books : NumberedBooks) commands. AreBooksOf commands books)) (λ commands command. judge commands command ≡ None) journal now commands fault
      → IsReopened file bodies (Err (as_reopen_fault fault))
  fault_shown file (replay.DiskFault count) begun stops = tt
  fault_shown file (replay.BadRecord n) begun stops =
      let at = stops.1 bodies last honest stands first in
      let of : AreBooksOf at.commands at.kept.0 = at.kept.1 in
      record {
        start = before.position;
        begun = begun;
        from = omega (arith, front.snapshot.position, stops.0);
        bad = record {
          commands = at.commands;
          within = at.within;
          counted = at.counted;
          spelled = at.front;
          valid = of.valid;
          accepted = of.accepted;
          none = at.none;
        };
      }
  fault_shown file (replay.NoMemory lack) begun stops = tt

-- with all records of a journal decided from the first on, the books are those of its commands
pub all_read : {D : Type 0} {g : Ghosts D} (journal : Journal D g) (now : D) (after : NumberedBooks)
    → Replays (λ commands. AreBooksOf commands after) journal now (count_of journal) [] → IsSnapshotRead journal now (as_snapshot after)
all_read journal now after all = record {
  commands = all.later;
  decided = (all.kept.valid, all.kept.accepted);
  snapshot = all.kept.snapshot;
  bodies = λ bodies last honest stands.
      all_replayed (λ commands. AreBooksOf commands after) journal now [] all bodies last honest stands refl;
}

-- what stops that
pub reading_stopped : {D : Type 0} {g : Ghosts D} (journal : Journal D g) (now : D) (fault : ReplayFault)
    → Stops (AreKept (λ (books : NumberedBooks) commands. AreBooksOf commands books)) (λ commands command. judge commands command ≡ None) journal now [] fault
    → Stops AreDecided (λ commands command. judge commands command ≡ None) journal now [] fault
reading_stopped journal now fault stops =
    Stops-wider (AreKept (λ (books : NumberedBooks) commands. AreBooksOf commands books)) AreDecided
    (λ commands command. judge commands command ≡ None) (λ commands of. (of.1.valid, of.1.accepted)) journal now [] fault stops
