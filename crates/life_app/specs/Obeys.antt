-- What the program does for its arguments, over the journal's disk and a second one, or none, and the status with
-- which it ends
use Rattle.std.specs.Prelude.{◌≡◌, ℕ, ◌⊎◌, List, length, codes, Option, Some, None}
use Rattle.life_app.specs.Names.{Ghosts, Auditor, AreWords, Mode, Run, Value, Project, State, Checkpoint, Generate, Load, status_of, Input, Shelving, Stream, WroteLine, Ending, Usage, NoMemory, EndsRun, book, books_text, policy_account, EndsCheckpoint, EndsStateKept, EndsValue, EndsState, EndsProject, EndsGenerate, EndsLoading, EndsOverBasis, generated_lanes}
use Rattle.policy_machine.specs.Accounts.{ledger_of}

-- how each mode ends; only `run` reads the input and notifies the watchers; `state` and `checkpoint` don't touch the
-- shelf, and `generate` doesn't touch the disk either; only `state` of all policies and `checkpoint` touch the second
-- disk
abbrev pub EndsMode : {D E : Type 0} → Ghosts D → Ghosts E → (old new : D) → (second kept : Option E) → Mode → List Auditor → Input → Stream
    → Shelving → (InputStays ShelfStays : Type 0) → Ending → Type 0
EndsMode g e old new second kept (Run basis) auditors input output shelf InputStays ShelfStays ending =
    (kept ≡ second) × EndsRun g old new basis auditors input output shelf ShelfStays ending
EndsMode g e old new second kept (Value on at workers basis measure) auditors input output shelf InputStays ShelfStays ending =
    (kept ≡ second) × InputStays × EndsValue g old new on at measure basis shelf output ending
EndsMode g e old new second kept (Project on years workers basis) auditors input output shelf InputStays ShelfStays ending =
    (kept ≡ second) × InputStays × EndsProject g old new on years basis shelf output ending
EndsMode {E = E} g e old new second kept (State None) auditors input output shelf InputStays ShelfStays ending =
    InputStays × ShelfStays × by second kept
  where
    -- by the journal alone, or by both disks
    by : (second kept : Option E) → Type 0
    by None None =
        EndsState g old new (λ commands. books_text (book commands) (ledger_of commands) (length commands)) output ending
    by (Some second) (Some kept) =
        EndsStateKept g e (record { old = old; new = new; second = second; kept = kept }) output ending
    by _ _ = ⊥
EndsMode g e old new second kept (State (Some id)) auditors input output shelf InputStays ShelfStays ending =
    (kept ≡ second) × InputStays × ShelfStays × EndsState g old new (policy_account id) output ending
EndsMode {E = E} g e old new second kept Checkpoint auditors input output shelf InputStays ShelfStays ending =
    InputStays × ShelfStays × by second kept
  where
    -- without a second disk its arguments aren't obeyed
    by : (second kept : Option E) → Type 0
    by None None = (new ≡ old) × (ending ≡ Usage) × WroteLine output (codes "usage")
    by (Some second) (Some kept) =
        EndsCheckpoint g e (record { old = old; new = new; second = second; kept = kept }) output ending
    by _ _ = ⊥
EndsMode g e old new second kept (Generate seed count lanes) auditors input output shelf InputStays ShelfStays ending =
    (kept ≡ second) × InputStays × ShelfStays × (new ≡ old) × EndsGenerate seed count lanes output ending
EndsMode g e old new second kept (Load seed count lanes workers) auditors input output shelf InputStays ShelfStays ending =
    (kept ≡ second) × InputStays
    × EndsOverBasis old new (λ basis. EndsLoading g old new (generated_lanes seed lanes count) workers basis output ending)
    (codes "basis.csv") shelf output ending

-- Nothing is touched, and a line says why the arguments weren't obeyed: they ask for nothing, or memory was refused.
abbrev pub EndsUnasked : {D E : Type 0} → (old new : D) → (second kept : Option E) → List (List ℕ) → Stream
    → (InputStays ShelfStays : Type 0) → Ending → Type 0
EndsUnasked old new second kept words output InputStays ShelfStays ending =
    (new ≡ old) × (kept ≡ second) × InputStays × ShelfStays × says ending
  where
    says : Ending → Type 0
    says Usage = ((mode : Mode) → ¬ AreWords words mode) × WroteLine output (codes "usage")
    says (NoMemory lack) = WroteLine output (codes "nomemory")
    says _ = ⊥

-- the program did what the arguments ask for, with these watchers, or the arguments weren't obeyed; and the status is
-- that of the ending
pub record Obeys {D E : Type 0} (g : Ghosts D) (e : Ghosts E) (old new : D) (second kept : Option E) (words : List (List ℕ))
    (auditors : List Auditor) (input : Input) (output : Stream) (shelf : Shelving) (InputStays ShelfStays : Type 0) (status : ℕ)
    : Type 0 where
  pub ending : Ending
  pub exits : status ≡ status_of ending
  pub does : ((mode : Mode) × AreWords words mode
      × EndsMode g e old new second kept mode auditors input output shelf InputStays ShelfStays ending)
      ⊎ EndsUnasked old new second kept words output InputStays ShelfStays ending
