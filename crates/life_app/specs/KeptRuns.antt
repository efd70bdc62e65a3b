-- A list of runs over both disks, each ended by its return or by a crash at any moment, and what they leave
use Rattle.std.specs.Prelude.{◌≡◌, ◌⊎◌, ℕ, List, [], ◌∷◌, ◌++◌}
use Rattle.life_app.specs.Names.{AllByRecursion, Ghosts, Command, Entry, Opening, IsSafe, Leaves, IsLeftAlone, IsNoneOrEarlierOrHeld, IsMadeSafe, TwoDisks, IsValid, IsAccepted, CheckpointBytes, IsSnapshotOf}
use Rattle.checkpoint_store.specs.declared.snapshot.Snapshot.{Snapshot}
use Rattle.life_app.specs.Runs.{IsLeftSo, IsRunOn, OneRun}

-- A run over both disks: that over the journal's; the second disk as the run gives it back, or would have; and the second
-- disk on which the next run begins.
pub record OneRunOfTwo (D E : Type 0) : Type 0 where
  pub one : OneRun D
  pub kept : E
  pub next_second : E

abbrev pub run_disks : {D E : Type 0} → D → E → OneRunOfTwo D E → TwoDisks D E
run_disks old second run = record { old = old; new = run.one.new; second = second; kept = run.kept }

-- a crash, at some moment of the run or after it, left of a disk exactly what the next run begins with
pub record WasLeftOf {E : Type 0} (e : Ghosts E) (old new next : E) : Type 0 where
  pub left : e.left_since new (e.clock old) (e.reads next)
  pub safe : IsSafe e next

-- A call didn't write to the second disk: a crash since leaves what it might have left before.
pub record LeavesSecond {E : Type 0} (e : Ghosts E) (old new : E) : Type 0 where
  pub since : Leaves e old new (e.may_leave old)
  pub now : (image : List ℕ) → e.may_leave new image → e.may_leave old image

-- A call saved the books, or tried to. No office was opened, and the journal's disk was made safe at some moment of
-- the call. A crash leaves on the second disk no checkpoint, or one that it might have left before, or one that is
-- the journal's, provided the disks are true.
pub record LeavesSaved {D E : Type 0} (g : Ghosts D) (e : Ghosts E) (disks : TwoDisks D E) : Type 0 where
  pub alone : IsLeftAlone g disks.old disks.new
  pub safe : IsMadeSafe g disks.old disks.new
  pub since : Leaves e disks.second disks.kept (IsNoneOrEarlierOrHeld g e disks)
  pub now : (image : List ℕ) → e.may_leave disks.kept image → IsNoneOrEarlierOrHeld g e disks image

-- a run that didn't write to the second disk: the next one begins with that disk, or with what a crash left of it
pub record KeepsSecond {D E : Type 0} (e : Ghosts E) (second : E) (run : OneRunOfTwo D E) : Type 0 where
  pub leaves : LeavesSecond e second run.kept
  pub next : (run.next_second ≡ run.kept) ⊎ WasLeftOf e second run.kept run.next_second

-- The crash came before the second disk was written to.
pub record WasCutBefore {E : Type 0} (e : Ghosts E) (second next : E) : Type 0 where
  pub left : e.may_leave second (e.reads next)
  pub safe : IsSafe e next

-- It came later. The premise is that the journal's disk was made safe before.
pub record WasCutAfter {D E : Type 0} (g : Ghosts D) (e : Ghosts E) (old : D) (second : E) (run : OneRunOfTwo D E)
    (safe : IsMadeSafe g old run.one.new) : Type 0 where
  pub first_left : g.left_since run.one.new (g.clock safe.0) (g.reads run.one.next)
  pub first_safe : IsSafe g run.one.next
  pub left : WasLeftOf e second run.kept run.next_second

-- A run that saved the books: a crash came before the second disk was written to, or later; or the run returned.
pub record SavesBooks {D E : Type 0} (g : Ghosts D) (e : Ghosts E) (old : D) (second : E) (run : OneRunOfTwo D E) : Type 0 where
  pub none : run.one.history ≡ []
  pub saved : LeavesSaved g e (run_disks old second run)
  pub next : WasCutBefore e second run.next_second ⊎ WasCutAfter g e old second run saved.safe
      ⊎ ((run.one.next ≡ run.one.new) × (run.next_second ≡ run.kept))

-- a run on these disks, which both come back honest
pub record IsRunOfTwo {D E : Type 0} (g : Ghosts D) (e : Ghosts E) (old : D) (second : E) (run : OneRunOfTwo D E) : Type 0 where
  pub one : IsRunOn g old run.one
  pub before : e.honest second
  pub honest : e.honest run.kept
  pub two : KeepsSecond e second run ⊎ SavesBooks g e old second run

-- the runs follow one another, from the first disks to the last
abbrev pub AreRunsOfTwo : {D E : Type 0} → Ghosts D → Ghosts E → D → E → List (OneRunOfTwo D E) → D → E → Type 0
AreRunsOfTwo g e first second [] last last_second = (last ≡ first) × (last_second ≡ second)
AreRunsOfTwo g e first second (run ∷ runs) last last_second =
    IsRunOfTwo g e first second run × AreRunsOfTwo g e run.one.next run.next_second runs last last_second

-- The snapshot is that of the first of these commands.
pub record IsSnapshotOfFirst (commands : List Command) (s : Snapshot) : Type 0 where
  pub front : List Command
  pub rest : List Command
  pub split : commands ≡ front ++ rest
  pub valid : AllByRecursion IsValid front
  pub accepted : IsAccepted front
  pub snapshot : IsSnapshotOf front s

-- a checkpoint in the file is the snapshot of the first of these commands
abbrev pub SavedOfFirst : List ℕ → List Command → Type 0
SavedOfFirst file commands = (s : Snapshot) → CheckpointBytes file s → IsSnapshotOfFirst commands s

-- what a call of the program leaves of the two disks, as a run of the list does
abbrev pub IsLeftByCall : {D E : Type 0} → Ghosts D → Ghosts E → TwoDisks D E → Type 0
IsLeftByCall g e disks =
    ((opening : Opening) × ((history : List Entry) × IsLeftSo g disks.old disks.new opening history))
    × (LeavesSecond e disks.second disks.kept ⊎ LeavesSaved g e disks)
