-- Two balances that a call was given.
use Rattle.checkpoint_store.proofs.Names.{Bool, IsTrue, ◌↔◌, subst, ℕ, ℤ, FitsSigned, w64, to_z, of_z, IsWithin}
use Rattle.std.proofs.lemmas.Int.{to_z-of_z}

pub both_within : (most : ℕ) (one other : ℤ) (is : Bool) → FitsSigned w64 one → FitsSigned w64 other
    → IsTrue is ↔ (IsWithin most (to_z w64 (of_z w64 one)) × IsWithin most (to_z w64 (of_z w64 other))) → IsTrue is ↔ (IsWithin most one × IsWithin most other)
both_within most one other is fits fits_other given =
    subst (λ (y : ℤ). IsTrue is ↔ (IsWithin most one × IsWithin most y)) (to_z-of_z w64 other fits_other)
    (subst (λ (x : ℤ). IsTrue is ↔ (IsWithin most x × IsWithin most (to_z w64 (of_z w64 other)))) (to_z-of_z w64 one fits) given)
