use Rattle.program_endings.proofs.Names.{◌≡◌, ℕ, List, length, ap, refl, inl, inr, lit<, lit≤, arith, slice_index, bad_basis_text}
use Rattle.std.specs.Fmt.{digits}
use Rattle.program_endings.proofs.WorkedEndings.{no_fault, no_front, no_part}
use Rattle.program_endings.proofs.worked.lines_that_were_written.Goals as goal

pub returns-clause-whole : goal.returns-clause-whole
returns-clause-whole c = (
  inl refl,
  (λ h. elim h [
    | inl e ↦ let no : 6 ≡ 7 = ap (λ (xs : List ℕ). length xs) e in omega arith
    | inr part ↦ no_fault part.0
  ]),
  inr (lit≤ tt, record { taken = 2; not_all = lit< tt; written = refl }),
  (λ h. elim h [
    | inl e ↦ let no : 3 ≡ 7 = ap (λ (xs : List ℕ). length xs) e in omega arith
    | inr part ↦ no_front part.1.taken part.1.written
  ]),
  (lit≤ tt, record { taken = 0; not_all = lit< tt; written = refl }),
  (λ h. no_part h.1.taken h.1.not_all h.1.written),
  refl,
  (λ h. let no : 2 ≡ 1 = ap (λ (xs : List ℕ). length xs) h in omega arith),
)

pub returns-clause-refusals : goal.returns-clause-refusals
unfolding digits bad_basis_text
returns-clause-refusals c = (
  inl refl,
  inl refl,
  (λ h. elim h [
    | inl e ↦ let no : 56 ≡ 55 = ap (λ (xs : List ℕ). slice_index xs 22) e in omega arith
    | inr part ↦ no_fault part.0
  ]),
  (refl, inl refl),
)

pub returns-clause-input : goal.returns-clause-input
returns-clause-input c = (
  record { given = refl; ended = tt; left = refl; end = refl },
  (λ h. let no : 3 ≡ 2 = ap (λ (xs : List ℕ). length xs) h.left in omega arith),
  record { given = refl; ended = tt; left = tt; end = refl },
  (λ h. let no : 3 ≡ 4 = ap (λ (xs : List ℕ). length xs) h.given in omega arith),
)
