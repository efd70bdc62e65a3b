-- A list that is gone through from its start: what holds on the way, and what that is at the end
use Rattle.std.proofs.Common.{◌≡◌, ℕ, zero, suc, ◌<◌, ◌≤◌, List, [], ◌∷◌, length, get_or, refl, sym, subst, arith}
use Rattle.std.specs.Prelude.{slice_set}
use Rattle.std.specs.List.{AllByRecursion, AllZip}

module _ {X : Type 0} (R : X → X → Type 0) where
  -- the first i items were gone through, and the others are as they were
  abbrev pub Halfway : ℕ → List X → List X → Type 0
  Halfway zero xs ys = ys ≡ xs
  Halfway (suc i) [] ys = ys ≡ []
  Halfway (suc i) (x ∷ xs) [] = ⊥
  Halfway (suc i) (x ∷ xs) (y ∷ ys) = R x y × Halfway i xs ys

  first_step : (ys : List X) (d z : X) → 0 < length ys → R (get_or ys 0 d) z → Halfway 1 ys (slice_set ys 0 z)
  first_step [] d z some r = absurd (omega arith)
  first_step (y ∷ ys) d z some r = (r, refl)

  -- the next item
  pub Halfway-step : (i : ℕ) (xs ys : List X) (d z : X) → Halfway i xs ys → i < length ys → R (get_or ys i d) z
      → Halfway (suc i) xs (slice_set ys i z)
  Halfway-step zero xs ys d z h some r =
      subst (λ zs. Halfway 1 zs (slice_set ys 0 z)) h (first_step ys d z some r)
  Halfway-step (suc i) [] ys d z h some r = absurd (let none = subst (λ zs. suc i < length zs) h some in omega arith)
  Halfway-step (suc i) (x ∷ xs) [] d z h some r = absurd h
  Halfway-step (suc i) (x ∷ xs) (y ∷ ys) d z h some r = (h.0, Halfway-step i xs ys d z h.1 (omega arith) r)

  -- what holds of all items holds of one that comes later
  pub Halfway-later : (P : X → Type 0) (i : ℕ) (xs ys : List X) (d : X) → AllByRecursion P xs → Halfway i xs ys
      → i < length ys → P (get_or ys i d)
  Halfway-later P zero [] ys d all h some = absurd (let none = subst (λ zs. 0 < length zs) h some in omega arith)
  Halfway-later P zero (x ∷ xs) ys d all h some = subst (λ zs. P (get_or zs 0 d)) (sym h) all.0
  Halfway-later P (suc i) [] ys d all h some = absurd (let none = subst (λ zs. suc i < length zs) h some in omega arith)
  Halfway-later P (suc i) (x ∷ xs) [] d all h some = absurd h
  Halfway-later P (suc i) (x ∷ xs) (y ∷ ys) d all h some = Halfway-later P i xs ys d all.1 h.1 (omega arith)

  -- what holds of one that comes later held of one from the beginning on, where nothing so far made it so
  pub Halfway-one : (P : X → Type 0) (HasOne : List X → Type 0) → ((x : X) (xs : List X) → P x → HasOne (x ∷ xs))
      → ((x : X) (xs : List X) → HasOne xs → HasOne (x ∷ xs)) → (i : ℕ) (xs ys : List X) (d : X) → Halfway i xs ys
      → i < length ys → P (get_or ys i d) → HasOne xs
  Halfway-one P HasOne here there zero xs [] d h some p = absurd (omega arith)
  Halfway-one P HasOne here there zero xs (y ∷ ys) d h some p = subst HasOne h (here y ys p)
  Halfway-one P HasOne here there (suc i) [] ys d h some p = absurd
      (let none = subst (λ zs. suc i < length zs) h some in omega arith)
  Halfway-one P HasOne here there (suc i) (x ∷ xs) [] d h some p = absurd h
  Halfway-one P HasOne here there (suc i) (x ∷ xs) (y ∷ ys) d h some p =
      there x xs (Halfway-one P HasOne here there i xs ys d h.1 (omega arith) p)

  none_left : (ys : List X) → length ys ≤ 0 → AllZip R ys ys
  none_left [] none = tt
  none_left (y ∷ ys) none = absurd (omega arith)

  -- at the end it holds of each item
  pub AllZip-from_end : (i : ℕ) (xs ys : List X) → Halfway i xs ys → length ys ≤ i → AllZip R xs ys
  AllZip-from_end zero xs ys h end = subst (λ zs. AllZip R zs ys) h (none_left ys end)
  AllZip-from_end (suc i) [] ys h end = subst (λ zs. AllZip R [] zs) (sym h) tt
  AllZip-from_end (suc i) (x ∷ xs) [] h end = absurd h
  AllZip-from_end (suc i) (x ∷ xs) (y ∷ ys) h end = (h.0, AllZip-from_end i xs ys h.1 (omega arith))

  all_same : ((x : X) → R x x) → (ys : List X) → AllZip R ys ys
  all_same same [] = tt
  all_same same (y ∷ ys) = (same y, all_same same ys)

  -- so it does on the way, where it holds of an item that stays
  pub AllZip-from_halfway : ((x : X) → R x x) → (i : ℕ) (xs ys : List X) → Halfway i xs ys → AllZip R xs ys
  AllZip-from_halfway same zero xs ys h = subst (λ zs. AllZip R zs ys) h (all_same same ys)
  AllZip-from_halfway same (suc i) [] ys h = subst (λ zs. AllZip R [] zs) (sym h) tt
  AllZip-from_halfway same (suc i) (x ∷ xs) [] h = absurd h
  AllZip-from_halfway same (suc i) (x ∷ xs) (y ∷ ys) h = (h.0, AllZip-from_halfway same i xs ys h.1)

-- a weaker relation
pub Halfway-weaker : {X : Type 0} (R S : X → X → Type 0) → ((x y : X) → R x y → S x y) → (i : ℕ) (xs ys : List X)
    → Halfway R i xs ys → Halfway S i xs ys
Halfway-weaker R S weaker zero xs ys h = h
Halfway-weaker R S weaker (suc i) [] ys h = h
Halfway-weaker R S weaker (suc i) (x ∷ xs) [] h = h
Halfway-weaker R S weaker (suc i) (x ∷ xs) (y ∷ ys) h = (weaker x y h.0, Halfway-weaker R S weaker i xs ys h.1)

-- what holds of the second of two items
pub AllByRecursion-from_zip : {X Y : Type 0} (R : X → Y → Type 0) (P : Y → Type 0) → ((x : X) (y : Y) → R x y → P y)
    → (xs : List X) (ys : List Y) → AllZip R xs ys → AllByRecursion P ys
AllByRecursion-from_zip R P gives [] [] h = tt
AllByRecursion-from_zip R P gives [] (y ∷ ys) h = absurd h
AllByRecursion-from_zip R P gives (x ∷ xs) [] h = absurd h
AllByRecursion-from_zip R P gives (x ∷ xs) (y ∷ ys) h = (gives x y h.0, AllByRecursion-from_zip R P gives xs ys h.1)

-- two relations in a row
pub AllZip-then : {X Y Z : Type 0} (P : X → Y → Type 0) (R : Y → Z → Type 0) (Q : X → Z → Type 0)
    → ((x : X) (y : Y) (z : Z) → P x y → R y z → Q x z)
    → (xs : List X) (ys : List Y) (zs : List Z) → AllZip P xs ys → AllZip R ys zs → AllZip Q xs zs
AllZip-then P R Q next [] [] [] h k = tt
AllZip-then P R Q next [] [] (z ∷ zs) h k = absurd k
AllZip-then P R Q next [] (y ∷ ys) zs h k = absurd h
AllZip-then P R Q next (x ∷ xs) [] zs h k = absurd h
AllZip-then P R Q next (x ∷ xs) (y ∷ ys) [] h k = absurd k
AllZip-then P R Q next (x ∷ xs) (y ∷ ys) (z ∷ zs) h k =
    (next x y z h.0 k.0, AllZip-then P R Q next xs ys zs h.1 k.1)
