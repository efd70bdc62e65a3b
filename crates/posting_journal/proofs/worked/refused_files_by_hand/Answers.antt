use Rattle.posting_journal.proofs.Names.{◌≡◌, ◌≤◌, ◌<◌, ◌++◌, ◌∷◌, [], ℕ, zero, suc, List, ap, refl, inl, inr, lit<, lit≤, arith, slice_index, gate_place}
use Rattle.std.specs.Prelude.{replicate}
use Rattle.posting_journal.specs.Worked.{header_by_hand, of_sevens}
use Rattle.posting_journal.proofs.WorkedFiles.{not_unfinished}
use Rattle.posting_journal.proofs.worked.refused_files_by_hand.Goals as goal

abbrev first_cut : List ℕ
first_cut = 1 ∷ header_by_hand ++ 1 ∷ of_sevens

abbrev second_cut : List ℕ
second_cut = 1 ∷ header_by_hand ++ 1 ∷ of_sevens ++ 1 ∷ replicate 63 0

abbrev version_two : List ℕ
version_two = 1 ∷ 0x4c ∷ 0x49 ∷ 0x46 ∷ 0x45 ∷ 0x4a ∷ 0x52 ∷ 0x4e ∷ 0x4c ∷ 0 ∷ 2 ∷ 0 ∷ 0x40 ∷ 0 ∷ 0 ∷ 0 ∷ 0 ∷ 0 ∷ []

first_gates : (k : ℕ) → k ≤ 0 → slice_index first_cut (gate_place k) ≡ 1
first_gates zero h = refl
first_gates (suc k) h = absurd (omega arith)

second_gates : (k : ℕ) → k ≤ 1 → slice_index second_cut (gate_place k) ≡ 1
second_gates zero h = refl
second_gates (suc zero) h = refl
second_gates (suc (suc k)) h = absurd (omega arith)

pub returns-clause-foreign : goal.returns-clause-foreign
returns-clause-foreign c = (
  record {
    finished = not_unfinished (replicate 18 65) (λ h. let no : 18 ≤ 1 = h in omega arith) (λ h. let no : 65 ≡ 0 = h.1 in cc)
        (λ h. let no : 65 ≡ 76 = ap (λ (xs : List ℕ). slice_index xs 0) h.1 in cc);
    other = inr (inl (λ e. let no : 65 ≡ 1 = e in cc));
  },
  record {
    finished = not_unfinished version_two (λ h. let no : 18 ≤ 1 = h in omega arith) (λ h. let no : 1 ≡ 0 = h.1 in cc) (λ h. h.3 refl);
    other = inr (inr (λ e. let no : 2 ≡ 1 = ap (λ (xs : List ℕ). slice_index xs 9) e in cc));
  },
  (λ h. elim h.other [
    | inl short ↦ let no : 149 < 18 = short in omega arith
    | inr other ↦ elim other [
      | inl unmade ↦ unmade refl
      | inr unlike ↦ unlike refl
    ]
  ]),
)

pub returns-clause-cut : goal.returns-clause-cut
returns-clause-cut c = (
  record {
    made = record { finished = refl; header = refl };
    gates = first_gates;
    long = lit< tt;
    few = lit≤ tt;
    here = inl (lit≤ tt);
  },
  record {
    made = record { finished = refl; header = refl };
    gates = second_gates;
    long = lit< tt;
    few = lit≤ tt;
    here = inl (lit≤ tt);
  },
  (λ h. elim h.here [
    | inl short ↦ let no : 149 ≤ 147 = short in omega arith
    | inr many ↦ let no : 1 ≡ 4000000 = many in cc
  ]),
)
