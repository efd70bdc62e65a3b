-- Lists of views: one seat's view, a change of it, and the sum of a number over all.
use Rattle.turn_lock.proofs.Names.{◌≡◌, ℕ, zero, suc, ◌+◌, ◌<◌, ◌≤◌, ◌≢◌, List, [], ◌∷◌, ◌++◌, length, set, sym, refl, ap, arith, some, some-injective, some-ne-none, get_elem?, View, total}

pub has_place : {A : Type 0} (xs : List A) (i : ℕ) (x : A) → get_elem? xs i ≡ some x → i < length xs
has_place [] i x e = absurd (some-ne-none x (sym e))
has_place (y ∷ xs) zero x e = omega arith
has_place (y ∷ xs) (suc i) x e = let h = has_place xs i x e in omega arith

module _ {O : Type 0} (f : View O → ℕ) where
  pub total_set : (vs : List (View O)) (i : ℕ) (v w : View O) → get_elem? vs i ≡ some v → total f (set vs i w) + f v ≡ total f vs + f w
  total_set [] i v w e = absurd (some-ne-none v (sym e))
  total_set (u ∷ vs) zero v w e = let same : f u ≡ f v = ap f (some-injective u v e) in omega arith
  total_set (u ∷ vs) (suc i) v w e = let rest = total_set vs i v w e in omega arith

  pub total_push : (vs : List (View O)) (w : View O) → total f (vs ++ w ∷ []) ≡ total f vs + f w
  total_push [] w = omega arith
  total_push (u ∷ vs) w = let rest = total_push vs w in omega arith

  pub total_one : (vs : List (View O)) (i : ℕ) (v : View O) → get_elem? vs i ≡ some v → f v ≤ total f vs
  total_one [] i v e = absurd (some-ne-none v (sym e))
  total_one (u ∷ vs) zero v e = let same : f u ≡ f v = ap f (some-injective u v e) in omega arith
  total_one (u ∷ vs) (suc i) v e = let rest = total_one vs i v e in omega arith

  pub total_two : (vs : List (View O)) (i j : ℕ) (v w : View O) → i ≢ j → get_elem? vs i ≡ some v → get_elem? vs j ≡ some w → f v + f w ≤ total f vs
  total_two [] i j v w other e d = absurd (some-ne-none v (sym e))
  total_two (u ∷ vs) zero zero v w other e d = absurd (other refl)
  total_two (u ∷ vs) zero (suc j) v w other e d = let same : f u ≡ f v = ap f (some-injective u v e) in let rest = total_one vs j w d in omega arith
  total_two (u ∷ vs) (suc i) zero v w other e d = let same : f u ≡ f w = ap f (some-injective u w d) in let rest = total_one vs i v e in omega arith
  total_two (u ∷ vs) (suc i) (suc j) v w other e d = let rest = total_two vs i j v w (λ s. other (ap suc s)) e d in omega arith
