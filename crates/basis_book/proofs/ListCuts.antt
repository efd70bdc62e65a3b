-- Two cuts of a list are at one place, or the one lies in the prefix of the other.
use Rattle.std.proofs.Common.{◌≡◌, ◌⊎◌, inl, inr, List, [], ◌∷◌, ◌++◌, refl}

abbrev pub Compares : {X : Type 0} → List X → X → List X → X → Type 0
Compares {X} g f h e = ((g ≡ h) × (f ≡ e)) ⊎ (((t : List X) × (h ≡ g ++ f ∷ t)) ⊎ ((t : List X) × (g ≡ h ++ e ∷ t)))

pub compare_cuts : {X : Type 0} (g : List X) (f : X) (r h : List X) (e : X) (s : List X) → g ++ f ∷ r ≡ h ++ e ∷ s → Compares g f h e
compare_cuts [] f r [] e s same = inl (refl, cc)
compare_cuts [] f r (y ∷ h) e s same = inr (inl (h, cc))
compare_cuts (x ∷ g) f r [] e s same = inr (inr (g, cc))
compare_cuts {X} (x ∷ g) f r (y ∷ h) e s same =
    let heads : x ≡ y = cc in
    let tails : g ++ f ∷ r ≡ h ++ e ∷ s = cc in
    elim (compare_cuts g f r h e s tails) [
      | inl k ↦ inl (let a = k.0 in cc, k.1)
      | inr k ↦ elim k [ inl t ↦ inr (inl (t.0, let a = t.1 in cc)) | inr t ↦ inr (inr (t.0, let a = t.1 in cc)) ]
    ]
