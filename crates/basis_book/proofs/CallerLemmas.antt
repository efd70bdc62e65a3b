-- For callers: a day of issue picks one row at most.
use Rattle.basis_book.proofs.Names.{◌≡◌, ◌<ℤ◌, ◌≤ℤ◌, ℕ, ℤ, inl, inr, List, ◌∷◌, ◌++◌, length, All, sym, ap, ◌∙◌, subst, refl, length-append, append_assoc, arith, ints, get_or_at, append_cancel_left, Dated, IsPicked}
use Rattle.basis_book.proofs.ListCuts.{compare_cuts}

-- the entry at a place of a list of which all hold a fact
at_cut : (P : Dated → Type 0) (before : List Dated) (entry : Dated) (after : List Dated) → All P (before ++ entry ∷ after) → P entry
at_cut P before entry after h =
    subst P (get_or_at before entry after entry (length before) refl) (h (length before) entry (omega (arith, length-append before (entry ∷ after))))

later_cannot_begin : (before after : List Dated) (entry : Dated) (issued : ℤ) → All (λ (other : Dated). issued <ℤ other.from_day) (before ++ entry ∷ after) → entry.from_day ≤ℤ issued → ⊥
later_cannot_begin before after entry issued all begun =
    let later : issued <ℤ entry.from_day = at_cut (λ (other : Dated). issued <ℤ other.from_day) before entry after all in
    omega (arith, ints)

-- if no row has begun, none is picked
pub none_picked : (basis : List Dated) (issued : ℤ) (index : ℕ) (entry : Dated) → All (λ (other : Dated). issued <ℤ other.from_day) basis → IsPicked basis issued index entry → ⊥
none_picked basis issued index entry all h =
    later_cannot_begin h.before h.after entry issued (subst (λ (xs : List Dated). All (λ (other : Dated). issued <ℤ other.from_day) xs) h.split all) h.begun

-- the second of two entries lies among those after the first
second_later : (before : List Dated) (first : Dated) (after between : List Dated) (second : Dated) (rest : List Dated) → before ++ first ∷ after ≡ (before ++ first ∷ between) ++ second ∷ rest
    → (issued : ℤ) → All (λ (other : Dated). issued <ℤ other.from_day) after → second.from_day ≤ℤ issued → ⊥
second_later before first after between second rest same issued later begun =
    let behind : first ∷ after ≡ first ∷ (between ++ second ∷ rest) = append_cancel_left before (first ∷ after) (first ∷ (between ++ second ∷ rest)) (same ∙ append_assoc before (first ∷ between) (second ∷ rest)) in
    let tail : after ≡ between ++ second ∷ rest = cc in
    later_cannot_begin between rest second issued (subst (λ (xs : List Dated). All (λ (other : Dated). issued <ℤ other.from_day) xs) tail later) begun

pub one_picked : (basis : List Dated) (issued : ℤ) (i j : ℕ) (e f : Dated) → IsPicked basis issued i e → IsPicked basis issued j f → (i ≡ j) × (e ≡ f)
one_picked basis issued i j e f h k =
    elim (compare_cuts h.before e h.after k.before f k.after (sym h.split ∙ k.split)) [
      | inl same ↦ (h.place ∙ ap (λ (xs : List Dated). length xs) same.0 ∙ sym k.place, same.1)
      | inr other ↦ absurd (elim other [
        | inl t ↦ second_later h.before e h.after t.0 f k.after (sym h.split ∙ k.split ∙ ap (λ (xs : List Dated). xs ++ f ∷ k.after) t.1) issued h.later k.begun
        | inr t ↦ second_later k.before f k.after t.0 e h.after (sym k.split ∙ h.split ∙ ap (λ (xs : List Dated). xs ++ e ∷ h.after) t.1) issued k.later h.begun
      ])
    ]
