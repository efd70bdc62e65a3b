-- How a run ends, with the script and the basis that it needs
use Rattle.std.specs.Prelude.{◌≡◌, ℕ, ◌⊎◌, true, false, List, []}
use Rattle.outside_io.specs.Shelves.{Files}
use Rattle.script_run.specs.Names.{Ghosts, Lane, GaveAll, Input, Shelving, Stream, Ending, Auditor, Dated}
use Rattle.basis_shelf.specs.Bases.{IsBasis}
use Rattle.lone_office.specs.Beginning.{EndsOverBasis}
use Rattle.script_run.specs.Outcome.{EndsScript}
use Rattle.script_run.specs.Script.{EndsUnread, IsReadAs, asks_for_values}

-- What the input gave up to its end was read as a script, whose run ended so. If no line asks for values, no basis is
-- needed and the shelf isn't touched.
pub record EndsRead {D : Type 0} (g : Ghosts D) (old new : D) (name : List ℕ) (auditors : List Auditor)
    (input : Input) (output : Stream) (shelf : Shelving) (ShelfStays : Type 0) (ending : Ending) : Type 0 where
  pub bytes : List ℕ
  pub gave : GaveAll input bytes
  pub lanes : List Lane
  pub read : IsReadAs bytes lanes
  pub ends : ((asks_for_values lanes ≡ false) × ShelfStays × EndsScript g old new lanes [] auditors output ending)
      ⊎ ((asks_for_values lanes ≡ true)
      × EndsOverBasis old new (λ basis. EndsScript g old new lanes basis auditors output ending) name shelf output ending)

-- a run that read no script leaves the shelf and the disk as they were
abbrev pub EndsRun : {D : Type 0} → Ghosts D → D → D → List ℕ → List Auditor → Input → Stream → Shelving
    → (ShelfStays : Type 0) → Ending → Type 0
EndsRun g old new name auditors input output shelf ShelfStays ending =
    EndsRead g old new name auditors input output shelf ShelfStays ending
    ⊎ ((new ≡ old) × ShelfStays × EndsUnread input output ending)

-- what the input gave up to its end was read as a script, a line of which asks for values
pub record ReadsForValues (input : Input) : Type 0 where
  pub bytes : List ℕ
  pub gave : GaveAll input bytes
  pub lanes : List Lane
  pub read : IsReadAs bytes lanes
  pub asks : asks_for_values lanes ≡ true

-- if a line asks for values, files that agree with the shelf's answers have the basis of this name
abbrev pub HasItsBasis : List Lane → List ℕ → Shelving → Type 0
HasItsBasis lanes name shelf =
    asks_for_values lanes ≡ true
    → (files : Files) × ((basis : List Dated) × shelf.Agrees files × IsBasis files name basis)
