use Rattle.posting_journal.proofs.Names.{◌≡◌, ◌≤◌, ◌++◌, ◌∷◌, [], refl, inl, inr, lit≤, arith}
use Rattle.std.specs.Prelude.{replicate}
use Rattle.posting_journal.specs.Worked.{header_by_hand}
use Rattle.posting_journal.proofs.WorkedFiles.{not_unfinished}
use Rattle.posting_journal.proofs.worked.creations_by_hand.Goals as goal

pub returns-clause-unfinished : goal.returns-clause-unfinished
returns-clause-unfinished c = (
  inl (lit≤ tt),
  inl (lit≤ tt),
  inr (inl (lit≤ tt, refl)),
  inr (inl (lit≤ tt, refl)),
  inr (inr (refl, refl, λ e. let no : 0 ≡ 1 = e in cc, λ e. let no : 3 ≡ 1 = e in cc)),
)

pub returns-clause-finished : goal.returns-clause-finished
returns-clause-finished c = (
  not_unfinished (2 ∷ 0 ∷ []) (λ h. let no : 2 ≤ 1 = h in omega arith) (λ h. let no : 2 ≡ 0 = h.1 in cc) (λ h. let no : 2 ≡ 18 = h.0 in cc),
  not_unfinished (replicate 19 0) (λ h. let no : 19 ≤ 1 = h in omega arith) (λ h. let no : 19 ≤ 18 = h.0 in omega arith) (λ h. let no : 19 ≡ 18 = h.0 in cc),
  not_unfinished (3 ∷ header_by_hand ++ 1 ∷ []) (λ h. let no : 18 ≤ 1 = h in omega arith) (λ h. let no : 3 ≡ 0 = h.1 in cc) (λ h. h.2 refl),
  not_unfinished (1 ∷ header_by_hand ++ 0 ∷ []) (λ h. let no : 18 ≤ 1 = h in omega arith) (λ h. let no : 1 ≡ 0 = h.1 in cc) (λ h. h.3 refl),
)
