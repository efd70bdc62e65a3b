-- The parts of how the program ends, for the contracts of its inner functions
use Rattle.std.specs.Prelude.{◌≡◌, ℕ, ◌⊎◌, List, length, codes, Option, Some, None}
use Rattle.life_app.specs.Names.{Ghosts, Auditor, AreWords, Mode, Input, Shelving, Stream, WroteLine, Ending, Usage, NoMemory, book, books_text, EndsCheckpoint, EndsStateKept, EndsState}
use Rattle.policy_machine.specs.Accounts.{ledger_of}
use Rattle.life_app.specs.Obeys.{EndsMode, EndsUnasked}

-- how `state` of all policies ends: by the journal alone, or by both disks
abbrev pub EndsBooks : {D E : Type 0} → Ghosts D → Ghosts E → (old new : D) → (second kept : Option E) → Stream → Ending → Type 0
EndsBooks {E = E} g e old new second kept output ending = by second kept
  where
    by : (second kept : Option E) → Type 0
    by None None =
        EndsState g old new (λ commands. books_text (book commands) (ledger_of commands) (length commands)) output ending
    by (Some second) (Some kept) =
        EndsStateKept g e (record { old = old; new = new; second = second; kept = kept }) output ending
    by _ _ = ⊥

-- how `checkpoint` ends: without a second disk its arguments aren't obeyed
abbrev pub EndsSave : {D E : Type 0} → Ghosts D → Ghosts E → (old new : D) → (second kept : Option E) → Stream → Ending → Type 0
EndsSave {E = E} g e old new second kept output ending = by second kept
  where
    by : (second kept : Option E) → Type 0
    by None None = (new ≡ old) × (ending ≡ Usage) × WroteLine output (codes "usage")
    by (Some second) (Some kept) =
        EndsCheckpoint g e (record { old = old; new = new; second = second; kept = kept }) output ending
    by _ _ = ⊥

-- why the arguments weren't obeyed, in a line
abbrev pub SaysUnasked : List (List ℕ) → Stream → Ending → Type 0
SaysUnasked words output Usage = ((mode : Mode) → ¬ AreWords words mode) × WroteLine output (codes "usage")
SaysUnasked words output (NoMemory lack) = WroteLine output (codes "nomemory")
SaysUnasked _ _ _ = ⊥

-- the arguments ask for a mode, which ended so, or weren't obeyed
abbrev pub Does : {D E : Type 0} → Ghosts D → Ghosts E → (old new : D) → (second kept : Option E) → List (List ℕ) → List Auditor
    → Input → Stream → Shelving → (InputStays ShelfStays : Type 0) → Ending → Type 0
Does g e old new second kept words auditors input output shelf InputStays ShelfStays ending =
    ((mode : Mode) × AreWords words mode × EndsMode g e old new second kept mode auditors input output shelf InputStays ShelfStays ending)
    ⊎ EndsUnasked old new second kept words output InputStays ShelfStays ending
