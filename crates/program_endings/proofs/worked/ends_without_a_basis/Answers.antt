use Rattle.program_endings.proofs.Names.{◌≡◌, ◌∙◌, ℕ, List, Option, None, ap, refl, inl, inr, lit≤, arith, codes, slice_index, bad_basis_text}
use Rattle.std.specs.Fmt.{digits}
use Rattle.basis_shelf.specs.declared.fault.BadBasis.{BadBasis}
use Rattle.basis_shelf.specs.declared.fault.BasisWord.TheVariants.{Absent}
use Rattle.basis_shelf.proofs.OneBasis.{one_first_bad}
use Rattle.program_endings.proofs.WorkedEndings.{no_fault}
use Rattle.program_endings.proofs.worked.ends_without_a_basis.Goals as goal

abbrev absent : BadBasis
absent = record { name = codes "b.csv"; place = 0; word = Absent }

abbrev no_files : List ℕ → Option (List ℕ)
no_files name = None

pub returns : goal.returns
unfolding digits bad_basis_text
returns c = (
  (absent, (λ files none. inl (refl, (none, refl))), inl refl),
  (λ h.
      let same : h.0 ≡ absent = one_first_bad no_files (codes "b.csv") h.0 absent (h.1 no_files refl) (inl (refl, (refl, refl))) in
      elim h.2 [
        | inl e ↦ let no : 49 ≡ 48 = ap (λ (xs : List ℕ). slice_index xs 15) (e ∙ ap (λ (bad : BadBasis). bad_basis_text bad) same) in omega arith
        | inr part ↦ no_fault part.0
      ]),
  (lit≤ tt, inl refl),
  (λ h. no_fault h.0),
)
