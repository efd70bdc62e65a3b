-- Names for the parts of how the two modes end
use Rattle.std.specs.Prelude.{◌≡◌, ℕ, ◌⊎◌, ℤ, List}
use Rattle.valuing_modes.specs.Names.{Ghosts, Dated, Stream, Ending, Ahead, At, Measure, HoldsStill, EndsReadOnly}
use Rattle.valuing_modes.specs.Projecting.{IsProjectionText}
use Rattle.valuing_modes.specs.Valuing.{IsBeyond, IsValuation}

abbrev pub IsProjected : {D : Type 0} → Ghosts D → D → D → ℤ → ℕ → List Dated → (List ℕ → Type 0) → Type 0
IsProjected g old new on years basis Wrote = HoldsStill g old new (λ commands. IsProjectionText commands on years basis Wrote)

abbrev pub EndsProjecting : {D : Type 0} → Ghosts D → D → D → ℤ → ℕ → List Dated → Stream → Ending → Type 0
EndsProjecting g old new on years basis output ending = EndsReadOnly g old new (IsProjected g old new on years basis) output ending

abbrev pub IsValued : {D : Type 0} → Ghosts D → D → D → ℤ → At → Measure → List Dated → (List ℕ → Type 0) → Type 0
IsValued g old new on at measure basis Wrote = HoldsStill g old new (λ commands. IsValuation commands on at measure basis Wrote)

abbrev pub IsAhead : {D : Type 0} → Ghosts D → D → D → At → Stream → Type 0
IsAhead g old new at output = HoldsStill g old new (λ commands. IsBeyond commands at output)

abbrev pub EndsValuing : {D : Type 0} → Ghosts D → D → D → ℤ → At → Measure → List Dated → Stream → Ending → Type 0
EndsValuing g old new on at measure basis output ending =
    EndsReadOnly g old new (IsValued g old new on at measure basis) output ending
    ⊎ ((ending ≡ Ahead) × IsAhead g old new at output)
