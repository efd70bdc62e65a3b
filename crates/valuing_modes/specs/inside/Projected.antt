-- How the parts of `project` end
use Rattle.std.specs.Prelude.{ℕ, ◌≤◌, ℤ, List, codes, length, Result, Ok, Err}
use Rattle.valuing_modes.specs.Names.{All, Rose, AppendsPart, IsTermDay, Command, Dated, Stream, WroteAll, WroteLine, Ending, Done, NoMemory, WriteFault, ValueFault, IsTellable, projection_text, Projection}
use Rattle.snapshot_value.specs.declared.valuation.ValueFault.TheVariants.{Pin, NoMemory as NoValues}
use Rattle.valuing_modes.specs.Projecting.{IsProjectionText}

-- it can be printed
pub record CanBePrinted (projection : Projection) : Type 0 where
  pub day : IsTermDay projection.on
  pub few : length projection.years ≤ 131
  pub bounded : All IsTellable projection.years

-- the results while nobody else holds a pin: the projection, which can be printed, or that memory was refused
abbrev pub IsLoneProjection : Result Projection ValueFault → Type 0
IsLoneProjection (Ok projection) = CanBePrinted projection
IsLoneProjection (Err (NoValues lack)) = Unit {0}
IsLoneProjection (Err (Pin refusal)) = ⊥

-- how the answer is written
abbrev pub EndsPrinted : Result Projection ValueFault → Stream → Ending → Type 0
EndsPrinted (Ok projection) output Done = WroteAll output (projection_text projection)
EndsPrinted (Ok projection) output WriteFault =
    Rose output.faults_before output.faults_after × AppendsPart output.before output.after (projection_text projection)
EndsPrinted (Ok projection) output (NoMemory lack) = WroteLine output (codes "nomemory")
EndsPrinted (Err (NoValues lack)) output (NoMemory other_lack) = WroteLine output (codes "nomemory")
EndsPrinted _ _ _ = ⊥

-- how the projection of these commands' policies is written
abbrev pub EndsProjected : List Command → ℤ → ℕ → List Dated → Stream → Ending → Type 0
EndsProjected commands on years basis output Done = IsProjectionText commands on years basis (WroteAll output)
EndsProjected commands on years basis output WriteFault =
    Rose output.faults_before output.faults_after
    × IsProjectionText commands on years basis (AppendsPart output.before output.after)
EndsProjected commands on years basis output (NoMemory lack) = WroteLine output (codes "nomemory")
EndsProjected commands on years basis output _ = ⊥
