-- How a mode ends that wasn't begun
use Rattle.std.proofs.Common.{◌≡◌, ℕ, List, Option, Some, inl, inr, refl, subst, sym}
use Rattle.outside_io.specs.declared.disks.Disk.{Ghosts}
use Rattle.basis_book.specs.Dated.{Dated}
use Rattle.program_endings.specs.WithoutBasis.{EndsNoBasis}
use Rattle.program_endings.specs.Writing.{Shelving, Stream}
use Rattle.program_endings.specs.declared.ending.Ending.{Ending}
use Rattle.lone_office.specs.Beginning.{EndsOverBasis, HasNotBegun, IsUnopened}

-- there was no basis, although one is asked for
pub not_begun : {D : Type 0} (g : Ghosts D) (disk : D) (asked : Option (List ℕ)) (name : List ℕ) (shelf : Shelving) (ShelfStays : Type 0)
    (output : Stream) (ending : Ending) → asked ≡ Some name → EndsNoBasis name shelf output ending
    → HasNotBegun g disk disk asked shelf ShelfStays output ending
not_begun g disk asked name shelf ShelfStays output ending is none =
    subst (λ (of : Option (List ℕ)). HasNotBegun g disk disk of shelf ShelfStays output ending) (sym is) (inr (refl, none))

pub ends_not_begun : {D : Type 0} (g : Ghosts D) (old new : D) (Ends : List Dated → Type 0) (name : List ℕ) (shelf : Shelving) (output : Stream)
    (ending : Ending) → ((basis : List Dated) → IsUnopened g old new output ending → Ends basis)
    → EndsOverBasis old new (λ basis. IsUnopened g old new output ending) name shelf output ending
    → EndsOverBasis old new Ends name shelf output ending
ends_not_begun g old new Ends name shelf output ending unopened not = elim not [
  | inl by ↦ inl (record { basis = by.basis; is = by.is; ends = unopened by.basis by.ends })
  | inr none ↦ inr none
]
