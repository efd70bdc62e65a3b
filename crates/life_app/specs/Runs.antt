-- A list of runs over one disk, each ended by its return or by a crash at any moment, and what they leave
use Rattle.std.specs.Prelude.{◌≡◌, ◌⊎◌, List, [], ◌∷◌, ◌++◌}
use Rattle.life_app.specs.Names.{Ghosts, Command, Entry, Opening, accepted_of, IsSafe, HasKept, IsLeftAlone, IsLeftBy}
use Rattle.life_app.specs.Crashes.{IsOneMore}

-- A run: the disk as it gives it back, or would have, and the disk on which the next run begins; the opening of its
-- office, and the turns; and the commands that the run had reported as accepted when it ended.
pub record OneRun (D : Type 0) : Type 0 where
  pub new : D
  pub next : D
  pub opening : Opening
  pub history : List Entry
  pub answered : List Command

-- The disk is left by the turns of an office; or no office was opened, and the disk is left alone or wasn't touched.
abbrev pub IsLeftSo : {D : Type 0} → Ghosts D → D → D → Opening → List Entry → Type 0
IsLeftSo g old new opening history =
    IsLeftBy g old new opening history
    ⊎ ((history ≡ []) × IsLeftAlone g old new)
    ⊎ ((history ≡ []) × (new ≡ old))

-- the run returned, and the next one begins with the disk that it gave back
pub record HasReturned {D : Type 0} (run : OneRun D) : Type 0 where
  pub handed : run.next ≡ run.new
  pub all : run.answered ≡ accepted_of run.history

-- The crash came when nothing had been answered yet; or when a beginning of the turns had been answered, at or after
-- a moment since which each image holds what they accepted.
pub record HasAnsweredSome {D : Type 0} (g : Ghosts D) (old : D) (run : OneRun D) : Type 0 where
  pub front : List Entry
  pub rest : List Entry
  pub split : run.history ≡ front ++ rest
  pub answered : run.answered ≡ accepted_of front
  pub kept : HasKept g old run.new run.opening front
  pub late : g.left_since run.new (g.clock kept.stood) (g.reads run.next)

-- A crash, at some moment of the run or after it, left exactly the file with which the next run begins.
pub record WasCut {D : Type 0} (g : Ghosts D) (old : D) (run : OneRun D) : Type 0 where
  pub left : g.left_since run.new (g.clock old) (g.reads run.next)
  pub safe : IsSafe g run.next
  pub when : (run.answered ≡ []) ⊎ HasAnsweredSome g old run

-- a run on this disk, which comes back honest
pub record IsRunOn {D : Type 0} (g : Ghosts D) (old : D) (run : OneRun D) : Type 0 where
  pub honest : g.honest run.new
  pub disk : IsLeftSo g old run.new run.opening run.history
  pub ended : HasReturned run ⊎ WasCut g old run

-- the runs follow one another, from the first disk to the last
abbrev pub AreRuns : {D : Type 0} → Ghosts D → D → List (OneRun D) → D → Type 0
AreRuns g first [] last = last ≡ first
AreRuns g first (run ∷ runs) last = IsRunOn g first run × AreRuns g run.next runs last

-- What a run adds: a prefix of what it accepted, and at most one more command, whose posting was answered `fault`
-- when exactly that was accepted. What it had reported as accepted is a prefix of this.
pub record AddsCommands {D : Type 0} (run : OneRun D) (held more : List Command) : Type 0 where
  pub front : (rest : List Command) × (accepted_of run.history ≡ held ++ rest)
  pub one : IsOneMore run.history held more
  pub answered : (rest : List Command) × (held ++ more ≡ run.answered ++ rest)

-- the commands that the runs left, from these on: what each of them adds, in their order
abbrev pub AreLeft : {D : Type 0} → List Command → List (OneRun D) → List Command → Type 0
AreLeft before [] commands = commands ≡ before
AreLeft before (run ∷ runs) commands =
    (held more : List Command) × AddsCommands run held more × AreLeft (before ++ held ++ more) runs commands
