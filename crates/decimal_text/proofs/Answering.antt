-- From the answer to the one decimal that a text spells, to all decimals that it may spell.
use Rattle.decimal_text.proofs.Names.{◌≡◌, ℕ, ◌+◌, ◌*◌, ◌<◌, ◌≤◌, List, Result, Ok, Err, IfOk, refl, ap, subst, arith, inl, inr, Decimal, Spells, numerator, denominator, IsInUnits, IsAboveOne, IsTooFine, IsRate, Answers, cases_lt}
use Rattle.std.proofs.Math.Nat.{one-le-pow, mul-le-mul_right}
use Rattle.decimal_text.specs.declared.fault.RateFault.{RateFault}
use Rattle.decimal_text.specs.declared.fault.RateFault.TheVariants.{NoNumber, AboveOne, TooFine}
use Rattle.decimal_text.proofs.Readings.{one_decimal}

same_units : (a b bottom top : ℕ) → 0 < bottom → a * bottom ≡ top → b * bottom ≡ top → a ≡ b
same_units a b bottom top some h k =
    elim (cases_lt a b) [
      | inl less ↦ let l : (a + 1) * bottom ≤ b * bottom = mul-le-mul_right bottom (omega arith) in absurd (omega arith)
      | inr rest ↦ elim (cases_lt b a) [
        | inl more ↦ let m : (b + 1) * bottom ≤ a * bottom = mul-le-mul_right bottom (omega arith) in absurd (omega arith)
        | inr same ↦ omega arith
      ]
    ]

value_at_most : (rate top bottom : ℕ) → rate * bottom ≡ 1000000000 * top → rate ≤ 1000000000 → top ≤ bottom
value_at_most rate top bottom h k = let most : rate * bottom ≤ 1000000000 * bottom = mul-le-mul_right bottom k in omega arith

positive : (d : Decimal) → 0 < denominator d
positive d = one-le-pow _ 10 (omega arith)

pub same_value : (d : Decimal) (a b : ℕ) → IsInUnits a d → IsInUnits b d → a ≡ b
same_value d a b h k = same_units a b (denominator d) (1000000000 * numerator d) (positive d) h k

pub found : (text : List ℕ) (d : Decimal) (r : Result ℕ RateFault) → Spells text d → Answers d r → IfOk r (IsRate text)
found text d (Ok rate) h a = (d, h, a.0, a.1)
found text d (Err e) h a = tt

-- the decimal of one answer is that of any other
elsewhere : (text : List ℕ) (d e : Decimal) (r : Result ℕ RateFault) → Spells text d → Spells text e → Answers d r → Answers e r
elsewhere text d e r h k a = subst (λ x. Answers x r) (one_decimal text d e h k) a

only_at : (d : Decimal) (r : Result ℕ RateFault) (rate : ℕ) → Answers d r → IsInUnits rate d → rate ≤ 1000000000 → r ≡ Ok rate
only_at d (Ok x) rate a v most = ap (λ (n : ℕ). Ok n) (same_value d x rate a.0 v)
only_at d (Err NoNumber) rate a v most = absurd a
only_at d (Err AboveOne) rate a v most = let small = value_at_most rate (numerator d) (denominator d) v most in absurd (omega arith)
only_at d (Err TooFine) rate a v most = absurd (a.1 rate v)

pub only : (text : List ℕ) (d : Decimal) (r : Result ℕ RateFault) → Spells text d → Answers d r → (rate : ℕ) → IsRate text rate → r ≡ Ok rate
only text d r h a rate k = only_at k.0 r rate (elsewhere text d k.0 r h k.1 a) k.2 k.3

above_at : (d : Decimal) (r : Result ℕ RateFault) → Answers d r → IsAboveOne d → r ≡ Err AboveOne
above_at d (Ok x) a v = let small = value_at_most x (numerator d) (denominator d) a.0 a.1 in absurd (omega arith)
above_at d (Err NoNumber) a v = absurd a
above_at d (Err AboveOne) a v = refl
above_at d (Err TooFine) a v = absurd (omega (arith, a.0))

above_from : (d : Decimal) (r : Result ℕ RateFault) → Answers d r → r ≡ Err AboveOne → IsAboveOne d
above_from d r a e = subst (λ x. Answers d x) e a

pub above_one : (text : List ℕ) (d : Decimal) (r : Result ℕ RateFault) → Spells text d → Answers d r
    → (r ≡ Err AboveOne → (e : Decimal) × Spells text e × IsAboveOne e) × (((e : Decimal) × Spells text e × IsAboveOne e) → r ≡ Err AboveOne)
above_one text d r h a = (λ is. (d, h, above_from d r a is), λ k. above_at k.0 r (elsewhere text d k.0 r h k.1 a) k.2)

fine_at : (d : Decimal) (r : Result ℕ RateFault) → Answers d r → IsTooFine d → r ≡ Err TooFine
fine_at d (Ok x) a v = absurd (v.1 x a.0)
fine_at d (Err NoNumber) a v = absurd a
fine_at d (Err AboveOne) a v = absurd (omega (arith, v.0))
fine_at d (Err TooFine) a v = refl

fine_from : (d : Decimal) (r : Result ℕ RateFault) → Answers d r → r ≡ Err TooFine → IsTooFine d
fine_from d r a e = subst (λ x. Answers d x) e a

pub too_fine : (text : List ℕ) (d : Decimal) (r : Result ℕ RateFault) → Spells text d → Answers d r
    → (r ≡ Err TooFine → (e : Decimal) × Spells text e × IsTooFine e) × (((e : Decimal) × Spells text e × IsTooFine e) → r ≡ Err TooFine)
too_fine text d r h a = (λ is. (d, h, fine_from d r a is), λ k. fine_at k.0 r (elsewhere text d k.0 r h k.1 a) k.2)

no_number_from : (d : Decimal) (r : Result ℕ RateFault) → Answers d r → r ≡ Err NoNumber → ⊥
no_number_from d r a e = subst (λ x. Answers d x) e a

pub no_number : (text : List ℕ) (d : Decimal) (r : Result ℕ RateFault) → Spells text d → Answers d r
    → (r ≡ Err NoNumber → (e : Decimal) → Spells text e → ⊥) × (((e : Decimal) → Spells text e → ⊥) → r ≡ Err NoNumber)
no_number text d r h a = (λ is. absurd (no_number_from d r a is), λ none. absurd (none d h))
