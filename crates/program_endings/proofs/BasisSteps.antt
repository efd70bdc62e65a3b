-- How a mode ends without its basis, and what its status says of the basis
use Rattle.program_endings.proofs.Names.{◌≡◌, ◌⊎◌, ℕ, List, refl, subst, inl, inr, Rose, bad_basis_text, Ending, BadBasis, ReadFault, NoMemory, status_of, Shelving, Stream, WroteOrFailed}
use Rattle.outside_io.specs.Shelves.{Files}
use Rattle.basis_shelf.specs.Answers.{IfBad}
use Rattle.basis_book.specs.Dated.{Dated}
use Rattle.basis_shelf.specs.Bases.{IsBasis}
use Rattle.basis_shelf.specs.FirstBad.{IsFirstBadFile}
use Rattle.basis_shelf.specs.declared.fault.BadBasis.{BadBasis as ABadBasis}
use Rattle.basis_shelf.proofs.OneBasis.{basis_or_bad, one_first_bad}
use Rattle.basis_shelf.specs.declared.fault.NoBasis.{NoBasis}
use Rattle.basis_shelf.specs.declared.fault.NoBasis.TheVariants.{Bad, ReadFault as ShelfFailed, NoMemory as NoRoom}
use Rattle.program_endings.specs.WithoutBasis.{EndsNoBasis, SaysBadFile, SaysNoBasis}

-- the answer that there is no basis
pub no_basis : (name : List ℕ) (shelf : Shelving) (output : Stream) (ending : Ending) (cause : NoBasis)
    → ((files : Files) → shelf.Agrees files → IfBad (IsFirstBadFile files name) cause)
    → (cause ≡ ShelfFailed → Rose shelf.faults_before shelf.faults_after)
    → SaysNoBasis cause output ending → EndsNoBasis name shelf output ending
no_basis name shelf output BadBasis (Bad bad) first failed says = (bad, first, says)
no_basis name shelf output (NoMemory lack) (Bad bad) first failed says = says
no_basis name shelf output ReadFault ShelfFailed first failed says = (failed refl, says)
no_basis name shelf output (NoMemory lack) (NoRoom other_lack) first failed says = says
no_basis name shelf output _ (Bad bad) first failed says = absurd says
no_basis name shelf output _ ShelfFailed first failed says = absurd says
no_basis name shelf output _ (NoRoom lack) first failed says = absurd says

module _ (output : Stream) (name : List ℕ) (shelf : Shelving) (files : Files) (agrees : shelf.Agrees files)
    (shelf_held : Rose shelf.faults_before shelf.faults_after → ⊥) where
  -- a basis that the shelf has isn't refused
  pub basis_refused : (ending : Ending) (basis : List Dated) → IsBasis files name basis → EndsNoBasis name shelf output ending
      → status_of ending ≡ 9
  basis_refused BadBasis basis is ends =
      absurd (basis_or_bad files name basis ends.0 is (ends.1 files agrees))
  basis_refused ReadFault basis is ends = absurd (shelf_held ends.0)
  basis_refused (NoMemory lack) basis is ends = refl
  basis_refused _ basis is ends = absurd ends

  -- and one that is bad is
  pub bad_refused : (ending : Ending) (bad : ABadBasis) → IsFirstBadFile files name bad → EndsNoBasis name shelf output ending
      → SaysBadFile bad output (status_of ending) ⊎ (status_of ending ≡ 9)
  bad_refused BadBasis bad first ends =
      let same : ends.0 ≡ bad = one_first_bad files name ends.0 bad (ends.1 files agrees) first in
      inl (refl, subst (λ (b : ABadBasis). WroteOrFailed output (bad_basis_text b)) same ends.2)
  bad_refused ReadFault bad first ends = absurd (shelf_held ends.0)
  bad_refused (NoMemory lack) bad first ends = inr refl
  bad_refused _ bad first ends = absurd ends
