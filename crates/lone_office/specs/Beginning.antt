-- How a mode with an office begins, over the disk's file and the basis that it asks for; and how it ends, by that
-- basis
use Rattle.std.specs.Prelude.{◌≡◌, ◌⊎◌, ℕ, List, [], Option, Some, None}
use Rattle.outside_io.specs.Shelves.{Files}
use Rattle.outside_io.specs.declared.disks.Disk.{Ghosts}
use Rattle.basis_book.specs.Dated.{Dated}
use Rattle.basis_shelf.specs.Bases.{IsBasis}
use Rattle.office_state.specs.Opening.{HasNotOpened}
use Rattle.office_state.specs.States.{MomentRing}
use Rattle.office_state.specs.declared.faults.StartCause.{StartCause}
use Rattle.turn_lock.specs.Passes.{Holding}
use Rattle.shared_office.specs.Offices.{OfficeOpening}
use Rattle.shared_office.specs.Starting.{HasStartedOffice}
use Rattle.program_endings.specs.Refusals.{SaysUnopened}
use Rattle.program_endings.specs.WithoutBasis.{EndsNoBasis}
use Rattle.program_endings.specs.Writing.{Shelving, Stream}
use Rattle.program_endings.specs.declared.ending.Ending.{Ending}

-- whatever files agree with the shelf's answers make this basis under the name, and the mode ended so by it
pub record EndsByBasis (Ends : List Dated → Type 0) (name : List ℕ) (shelf : Shelving) : Type 0 where
  pub basis : List Dated
  pub is : (files : Files) → shelf.Agrees files → IsBasis files name basis
  pub ends : Ends basis

-- how a mode ends that needs a basis; without one it doesn't touch the disk
abbrev pub EndsOverBasis : {D : Type 0} → D → D → (List Dated → Type 0) → List ℕ → Shelving → Stream → Ending → Type 0
EndsOverBasis old new Ends name shelf output ending =
    EndsByBasis Ends name shelf ⊎ ((new ≡ old) × EndsNoBasis name shelf output ending)

-- whatever files agree with the shelf's answers make this basis under the name that is asked for; if none is asked
-- for, the basis has no rows, and the shelf isn't touched
abbrev pub IsAskedBasis : Option (List ℕ) → Shelving → (ShelfStays : Type 0) → List Dated → Type 0
IsAskedBasis (Some name) shelf ShelfStays basis = (files : Files) → shelf.Agrees files → IsBasis files name basis
IsAskedBasis None shelf ShelfStays basis = ShelfStays × (basis ≡ [])

-- an office was opened on the disk, with these watchers and this outlet, and this is its first pass
pub record HasFirstPass {D W : Type 0} (g : Ghosts D) (old : D) (watchers : W) (outlet : Option MomentRing)
    (pass : Holding (OfficeOpening D W)) : Type 0 where
  pub started : HasStartedOffice g old watchers pass
  pub same : started.outlet ≡ outlet

-- no office was opened on the disk, and the line says why
pub record IsUnopened {D : Type 0} (g : Ghosts D) (old new : D) (output : Stream) (ending : Ending) : Type 0 where
  pub cause : StartCause
  pub refused : HasNotOpened g old new cause
  pub says : SaysUnopened cause output ending

-- there was no basis although one is asked for, or no office
abbrev pub HasNotBegun : {D : Type 0} → Ghosts D → D → D → Option (List ℕ) → Shelving → (ShelfStays : Type 0) → Stream → Ending
    → Type 0
HasNotBegun g old new (Some name) shelf ShelfStays output ending =
    EndsOverBasis old new (λ basis. IsUnopened g old new output ending) name shelf output ending
HasNotBegun g old new None shelf ShelfStays output ending = ShelfStays × IsUnopened g old new output ending
