-- How `project` ends: what was written of the policies that the disk's file leaves, by the basis on the shelf
use Rattle.std.specs.Prelude.{ℕ, ℤ, List, length}
use Rattle.valuing_modes.specs.Names.{Ghosts, Command, Dated, Shelving, Stream, Ending, book, projection_text, Projection, HoldsStill, EndsReadOnly, EndsOverBasis}
use Rattle.cash_projection.specs.Pinned.{IsProjectionAt}

-- for the policies that all of these commands leave, projected for so many years from the day on, the text was
-- written
pub record IsProjectionText (commands : List Command) (on : ℤ) (years : ℕ) (basis : List Dated) (Wrote : List ℕ → Type 0) : Type 0 where
  pub projection : Projection
  pub is : IsProjectionAt basis on years (length commands) (book commands) projection
  pub wrote : Wrote (projection_text projection)

-- how `project` ends: the policies of the disk's file were projected by the basis, and the disk holds its commands
-- still; or a line says why not; without a basis the disk isn't touched
abbrev pub EndsProject : {D : Type 0} → Ghosts D → D → D → ℤ → ℕ → List ℕ → Shelving → Stream → Ending → Type 0
EndsProject g old new on years name shelf output ending =
    EndsOverBasis old new (λ basis.
    EndsReadOnly g old new (λ Wrote. HoldsStill g old new (λ commands. IsProjectionText commands on years basis Wrote)) output ending)
    name shelf output ending
