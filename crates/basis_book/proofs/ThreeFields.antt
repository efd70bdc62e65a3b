-- The fields of a row by their places.
use Rattle.basis_book.proofs.Names.{◌≡◌, ℕ, suc, zero, ◌<◌, List, [], ◌∷◌, length, Some, None, arith, field_at}

pub not_three : (row : List (List ℕ)) (i : ℕ) → i < 3 → field_at row i ≡ None → (day table points : List ℕ) → row ≡ day ∷ table ∷ points ∷ [] → ⊥
unfolding field_at
not_three row i small none day table points e = at i small (rw e at none)
  where
    at : (i : ℕ) → i < 3 → field_at (day ∷ table ∷ points ∷ []) i ≡ None → ⊥
    at zero small none = cc
    at (suc zero) small none = cc
    at (suc (suc zero)) small none = cc
    at (suc (suc (suc i))) small none = omega arith

pub all_three : (row : List (List ℕ)) (day table points : List ℕ) → length row ≡ 3 → field_at row 0 ≡ Some day → field_at row 1 ≡ Some table → field_at row 2 ≡ Some points
    → row ≡ day ∷ table ∷ points ∷ []
unfolding field_at
all_three [] day table points n a b c = absurd (omega arith)
all_three (x ∷ []) day table points n a b c = absurd (omega arith)
all_three (x ∷ y ∷ []) day table points n a b c = absurd (omega arith)
all_three (x ∷ y ∷ z ∷ []) day table points n a b c = cc
all_three (x ∷ y ∷ z ∷ w ∷ rest) day table points n a b c = absurd (omega arith)
