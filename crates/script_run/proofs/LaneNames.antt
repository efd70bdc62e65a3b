-- A short name for how the lanes of a script end
use Rattle.std.specs.Prelude.{◌≡◌, ℕ, ◌⊎◌, true, false, List, []}
use Rattle.script_run.specs.Names.{Ghosts, Lane, Shelving, Stream, Ending, Auditor}
use Rattle.lone_office.specs.Beginning.{EndsOverBasis}
use Rattle.script_run.specs.Outcome.{EndsScript}
use Rattle.script_run.specs.Script.{asks_for_values}

abbrev pub EndsLanes : {D : Type 0} → Ghosts D → D → D → List Lane → List ℕ → List Auditor → Shelving → Stream
    → (ShelfStays : Type 0) → Ending → Type 0
EndsLanes g old new lanes name auditors shelf output ShelfStays ending =
    ((asks_for_values lanes ≡ false) × ShelfStays × EndsScript g old new lanes [] auditors output ending)
    ⊎ ((asks_for_values lanes ≡ true)
    × EndsOverBasis old new (λ basis. EndsScript g old new lanes basis auditors output ending) name shelf output ending)
