-- The rounded values by the year, as the columns hold them.
use Rattle.present_value.proofs.Names.{◌≡◌, ℕ, zero, suc, ◌+◌, ◌-◌, ◌*◌, ◌<◌, ◌≤◌, refl, ap, ◌∙◌, arith, inl, inr, leb_tells, ONE, Fraction, Between, Cover, year, ben, ann, UNIT, down, up, benefit_dividend, annuity_dividend, rounded_ben, rounded_ann, ben_is_rounded, ann_is_rounded, ben_lo, ben_hi, ann_lo, ann_hi, pair_of, IsPairOf}
use Rattle.std.proofs.Math.Nat.{le_trans, le_of_mul-le-mul_right}
use Rattle.present_value.proofs.Years.{ben_is, ann_is}
use Rattle.present_value.proofs.Enclosing.{ben_between, ann_between, ben_narrow, ann_narrow, ben_most, ann_most, ann_least}

pub rounded_ben-before : (q : ℕ → ℕ → ℕ) (c : Cover) (t : ℕ) → t < c.n
    → rounded_ben q c (c.n - t) ≡ q (benefit_dividend (c.rates t) (rounded_ben q c (c.n - (t + 1)))) (year c)
unfolding rounded_ben
rounded_ben-before q c t below =
    let left : c.n - t ≡ suc (c.n - (t + 1)) = omega arith in
    let place : c.n - suc (c.n - (t + 1)) ≡ t = omega arith in
    rw left (ap (λ k. q (benefit_dividend (c.rates k) (rounded_ben q c (c.n - (t + 1)))) (year c)) place)

pub ben_lo-before : (c : Cover) (t : ℕ) → t < c.n
    → ben_lo c t ≡ down (benefit_dividend (c.rates t) (ben_lo c (t + 1))) (year c)
ben_lo-before c t below = rw (ben_is_rounded down c t, ben_is_rounded down c (t + 1)) (rounded_ben-before down c t below)

pub ben_hi-before : (c : Cover) (t : ℕ) → t < c.n
    → ben_hi c t ≡ up (benefit_dividend (c.rates t) (ben_hi c (t + 1))) (year c)
ben_hi-before c t below = rw (ben_is_rounded up c t, ben_is_rounded up c (t + 1)) (rounded_ben-before up c t below)

pub rounded_ann-before : (q : ℕ → ℕ → ℕ) (c : Cover) (t : ℕ) → t < c.n → t < c.h
    → rounded_ann q c (c.n - t) ≡ UNIT + q (annuity_dividend (c.rates t) (rounded_ann q c (c.n - (t + 1)))) (year c)
unfolding rounded_ann
rounded_ann-before q c t below due =
    let left : c.n - t ≡ suc (c.n - (t + 1)) = omega arith in
    let place : c.n - suc (c.n - (t + 1)) ≡ t = omega arith in
    rw left (elim (leb_tells (suc (c.n - suc (c.n - (t + 1)))) c.h) [
      | inl h ↦ rw h.0 (ap (λ k. UNIT + q (annuity_dividend (c.rates k) (rounded_ann q c (c.n - (t + 1)))) (year c)) place)
      | inr h ↦ absurd (omega (arith, h.1))
    ])

pub ann_lo-before : (c : Cover) (t : ℕ) → t < c.n → t < c.h
    → ann_lo c t ≡ UNIT + down (annuity_dividend (c.rates t) (ann_lo c (t + 1))) (year c)
ann_lo-before c t below due = rw (ann_is_rounded down c t, ann_is_rounded down c (t + 1)) (rounded_ann-before down c t below due)

pub ann_hi-before : (c : Cover) (t : ℕ) → t < c.n → t < c.h
    → ann_hi c t ≡ UNIT + up (annuity_dividend (c.rates t) (ann_hi c (t + 1))) (year c)
ann_hi-before c t below due = rw (ann_is_rounded up c t, ann_is_rounded up c (t + 1)) (rounded_ann-before up c t below due)

-- after the last premium nothing is due
pub rounded_ann-after : (q : ℕ → ℕ → ℕ) (c : Cover) (left : ℕ) → c.h ≤ c.n - left → rounded_ann q c left ≡ 0
unfolding rounded_ann
rounded_ann-after q c zero after = refl
rounded_ann-after q c (suc left) after = elim (leb_tells (suc (c.n - suc left)) c.h) [
  | inl h ↦ absurd (omega (arith, h.1))
  | inr h ↦ rw h.0 refl
]

pub ann-after : (c : Cover) (t : ℕ) → t ≤ c.n → c.h ≤ t → pair_of (ann_lo c t) (ann_hi c t) ≡ pair_of 0 0
ann-after c t within after =
    let place : c.h ≤ c.n - (c.n - t) = omega arith in
    let lo = ann_is_rounded down c t ∙ rounded_ann-after down c (c.n - t) place in
    let hi = ann_is_rounded up c t ∙ rounded_ann-after up c (c.n - t) place in
    cc

-- how large the values are
pub ben_hi-most : (c : Cover) (t : ℕ) → ((k : ℕ) → k < c.n → c.rates k ≤ ONE) → ben_hi c t ≤ UNIT
ben_hi-most c t rates = rw (ben_is_rounded up c t) (ben_most c (c.n - t) (omega arith) rates)

pub ann_hi-most : (c : Cover) (t : ℕ) → ann_hi c t ≤ (c.n - t) * UNIT
ann_hi-most c t = rw (ann_is_rounded up c t) (ann_most c (c.n - t))

pub ann_lo-least : (c : Cover) (t : ℕ) → t < c.n → t < c.h → UNIT ≤ ann_lo c t
ann_lo-least c t below due = rw (ann_is_rounded down c t) (ann_least c (c.n - t) (omega arith) (omega arith))

-- the bounds enclose the exact values, and differ by at most one unit for each year that is left
pub ben-between : (c : Cover) (t : ℕ) → t ≤ c.n → Between (ben_lo c t) (ben_hi c t) UNIT (ben c t)
ben-between c t within = rw (ben_is_rounded down c t, ben_is_rounded up c t, ben_is c t (c.n - t) refl) (ben_between c t (c.n - t) (omega arith))

pub ann-between : (c : Cover) (t : ℕ) → c.h ≤ c.n → t ≤ c.n → Between (ann_lo c t) (ann_hi c t) UNIT (ann c t)
ann-between c t covered within = rw (ann_is_rounded down c t, ann_is_rounded up c t, ann_is c t (c.n - t) refl) (ann_between c t (c.n - t) covered (omega arith))

pub ben-narrow : (c : Cover) (t : ℕ) → ben_hi c t ≤ ben_lo c t + (c.n - t)
ben-narrow c t = rw (ben_is_rounded down c t, ben_is_rounded up c t) (ben_narrow c (c.n - t))

pub ann-narrow : (c : Cover) (t : ℕ) → ann_hi c t ≤ ann_lo c t + (c.n - t)
ann-narrow c t = rw (ann_is_rounded down c t, ann_is_rounded up c t) (ann_narrow c (c.n - t))

pub ben-pair : (c : Cover) (t : ℕ) → t ≤ c.n → c.n ≤ 131 → IsPairOf (ben c t) (pair_of (ben_lo c t) (ben_hi c t))
ben-pair c t within years = record { between = ben-between c t within; narrow = omega (arith, ben-narrow c t) }

pub ann-pair : (c : Cover) (t : ℕ) → c.h ≤ c.n → t ≤ c.n → c.n ≤ 131 → IsPairOf (ann c t) (pair_of (ann_lo c t) (ann_hi c t))
ann-pair c t covered within years = record { between = ann-between c t covered within; narrow = omega (arith, ann-narrow c t) }

-- an enclosed value has its bounds in order
pub ordered : (lo hi u : ℕ) (a : Fraction) → Between lo hi u a → lo ≤ hi
ordered lo hi u a p = le_of_mul-le-mul_right (le_trans p.above p.below) p.proper

pub ben_lo-most : (c : Cover) (t : ℕ) → t ≤ c.n → ((k : ℕ) → k < c.n → c.rates k ≤ ONE) → ben_lo c t ≤ UNIT
ben_lo-most c t within rates = le_trans (ordered _ _ _ _ (ben-between c t within)) (ben_hi-most c t rates)

pub ann_lo-most : (c : Cover) (t : ℕ) → c.h ≤ c.n → t ≤ c.n → ann_lo c t ≤ (c.n - t) * UNIT
ann_lo-most c t covered within = le_trans (ordered _ _ _ _ (ann-between c t covered within)) (ann_hi-most c t)
