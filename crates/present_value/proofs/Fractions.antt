-- Bounds of sums, differences, products and quotients of enclosed values.
use Rattle.present_value.proofs.Names.{◌≡◌, ℕ, ◌+◌, ◌-◌, ◌*◌, ◌<◌, ◌≤◌, inl, inr, arith, min, ap, zero, suc, leb_tells, Fraction, Between, plus, less, times, over, lesser, down, up}
use Rattle.std.proofs.Math.Nat.{mul-le-mul_left, mul-le-mul_right, mul-sub, mul_comm, mul-pos, le_of_mul-le-mul_right, min-eq_left, min-eq_right, min-le_left, min-le_right, le_trans}
use Rattle.present_value.proofs.Quotients.{down-le, le-up}

-- a bound from below of a sum, and one from above
sum_above : (u a b c d x y : ℕ) → a * b ≤ u * x → c * d ≤ u * y → (a + c) * (b * d) ≤ u * (x * d + y * b)
sum_above u a b c d x y p q = let p' = mul-le-mul_right d p in let q' = mul-le-mul_right b q in omega arith

sum_below : (u a b c d x y : ℕ) → u * x ≤ a * b → u * y ≤ c * d → u * (x * d + y * b) ≤ (a + c) * (b * d)
sum_below u a b c d x y p q = let p' = mul-le-mul_right d p in let q' = mul-le-mul_right b q in omega arith

pub plus-between : (u : ℕ) (a b : Fraction) (alo ahi blo bhi : ℕ)
    → Between alo ahi u a → Between blo bhi u b → Between (alo + blo) (ahi + bhi) u (plus a b)
unfolding plus
plus-between u a b alo ahi blo bhi p q = record {
  proper = mul-pos p.proper q.proper;
  above = sum_above u alo a.den blo b.den a.num b.num p.above q.above;
  below = sum_below u ahi a.den bhi b.den a.num b.num p.below q.below;
}

-- the same for a difference that stops at 0
difference : (u l h k m n : ℕ) → l * k ≤ u * m → u * n ≤ h * k → (l - h) * k ≤ u * (m - n)
difference u l h k m n p q = rw (mul_comm (l - h) k, mul-sub k l h, mul-sub u m n) (omega (arith, p, q))

difference_below : (u l h k m n : ℕ) → u * m ≤ h * k → l * k ≤ u * n → u * (m - n) ≤ (h - l) * k
difference_below u l h k m n p q = rw (mul_comm (h - l) k, mul-sub k h l, mul-sub u m n) (omega (arith, p, q))

pub less-between : (u : ℕ) (a b : Fraction) (alo ahi blo bhi : ℕ)
    → Between alo ahi u a → Between blo bhi u b → Between (alo - bhi) (ahi - blo) u (less a b)
unfolding less
less-between u a b alo ahi blo bhi p q =
    let a_above = mul-le-mul_right b.den p.above in
    let a_below = mul-le-mul_right b.den p.below in
    let b_above = mul-le-mul_right a.den q.above in
    let b_below = mul-le-mul_right a.den q.below in
    record {
      proper = mul-pos p.proper q.proper;
      above = difference u alo bhi (a.den * b.den) (a.num * b.den) (b.num * a.den) (omega arith) (omega arith);
      below = difference_below u blo ahi (a.den * b.den) (a.num * b.den) (b.num * a.den) (omega arith) (omega arith);
    }

min_below : (z x y d : ℕ) → z ≤ x * d → z ≤ y * d → z ≤ min x y * d
min_below z x y d p q = elim (leb_tells x y) [
  | inl h ↦ rw (min-eq_left h.1) p
  | inr h ↦ let g : y ≤ x = omega arith in rw (min-eq_right g) q
]

-- what is at most a value is bounded by the other's bound
crossed : (u h an ad bn bd : ℕ) → 0 < bd → an * bd ≤ bn * ad → u * bn ≤ h * bd → u * an ≤ h * ad
crossed u h an ad bn bd positive p q =
    let p' = mul-le-mul_left u p in
    let q' = mul-le-mul_right ad q in
    let spread : (u * an) * bd ≤ (h * ad) * bd = omega arith in
    le_of_mul-le-mul_right spread positive

pub lesser-between : (u : ℕ) (a b : Fraction) (alo ahi blo bhi : ℕ)
    → Between alo ahi u a → Between blo bhi u b → Between (min alo blo) (min ahi bhi) u (lesser a b)
unfolding lesser
lesser-between u a b alo ahi blo bhi p q = elim (leb_tells (a.num * b.den) (b.num * a.den)) [
  | inl h ↦ rw h.0 (record {
    proper = p.proper;
    above = le_trans (mul-le-mul_right a.den (min-le_left alo blo)) p.above;
    below = min_below _ ahi bhi a.den p.below (crossed u bhi a.num a.den b.num b.den q.proper h.1 q.below);
  })
  | inr h ↦ rw h.0 (record {
    proper = q.proper;
    above = le_trans (mul-le-mul_right b.den (min-le_right alo blo)) q.above;
    below = min_below _ ahi bhi b.den (crossed u ahi b.num b.den a.num a.den p.proper (omega arith) p.below) q.below;
  })
]

quotient_above : (u l ad an h bd bn x : ℕ) → 0 < u → x * h ≤ l * u → l * ad ≤ u * an → u * bn ≤ h * bd → x * (ad * bn) ≤ u * (an * bd)
quotient_above u l ad an h bd bn x positive e p q =
    let q' = mul-le-mul_left (x * ad) q in
    let e' = mul-le-mul_right (ad * bd) e in
    let p' = mul-le-mul_right (u * bd) p in
    let spread : (x * (ad * bn)) * u ≤ (u * (an * bd)) * u = omega arith in
    le_of_mul-le-mul_right spread positive

quotient_below : (u h ad an l bd bn x : ℕ) → 0 < u → h * u ≤ x * l → u * an ≤ h * ad → l * bd ≤ u * bn → u * (an * bd) ≤ x * (ad * bn)
quotient_below u h ad an l bd bn x positive e p q =
    let q' = mul-le-mul_left (x * ad) q in
    let e' = mul-le-mul_right (ad * bd) e in
    let p' = mul-le-mul_right (u * bd) p in
    let spread : (u * (an * bd)) * u ≤ (x * (ad * bn)) * u = omega arith in
    le_of_mul-le-mul_right spread positive

-- a lower bound above 0 shows that the value is above 0
pub positive_num : (u l d n : ℕ) → 0 < l → 0 < d → l * d ≤ u * n → 0 < n
positive_num u l d zero p q h = let r = mul-pos p q in omega arith
positive_num u l d (suc n) p q h = omega arith

pub over-between : (u : ℕ) (a b : Fraction) (alo ahi blo bhi : ℕ) → 0 < u → 0 < blo → blo ≤ bhi
    → Between alo ahi u a → Between blo bhi u b → Between (down (alo * u) bhi) (up (ahi * u) blo) u (over a b)
unfolding over
over-between u a b alo ahi blo bhi positive low order p q =
    let high : 0 < bhi = omega arith in
    record {
      proper = mul-pos p.proper (positive_num u blo b.den b.num low q.proper q.above);
      above = quotient_above u alo a.den a.num bhi b.den b.num (down (alo * u) bhi) positive (down-le (alo * u) bhi) p.above q.below;
      below = quotient_below u ahi a.den a.num blo b.den b.num (up (ahi * u) blo) positive (le-up (ahi * u) blo low) p.below q.above;
    }

product_above : (u l ad an k bd bn x : ℕ) → 0 < u → x * u ≤ l * k → l * ad ≤ u * an → k * bd ≤ u * bn → x * (ad * bd) ≤ u * (an * bn)
product_above u l ad an k bd bn x positive e p q =
    let e' = mul-le-mul_right (ad * bd) e in
    let p' = mul-le-mul_right (k * bd) p in
    let q' = mul-le-mul_left (u * an) q in
    let spread : (x * (ad * bd)) * u ≤ (u * (an * bn)) * u = omega arith in
    le_of_mul-le-mul_right spread positive

product_below : (u l ad an k bd bn x : ℕ) → 0 < u → l * k ≤ x * u → u * an ≤ l * ad → u * bn ≤ k * bd → u * (an * bn) ≤ x * (ad * bd)
product_below u l ad an k bd bn x positive e p q =
    let e' = mul-le-mul_right (ad * bd) e in
    let p' = mul-le-mul_right (k * bd) p in
    let q' = mul-le-mul_left (u * an) q in
    let spread : (u * (an * bn)) * u ≤ (x * (ad * bd)) * u = omega arith in
    le_of_mul-le-mul_right spread positive

pub times-between : (u : ℕ) (a b : Fraction) (alo ahi blo bhi : ℕ) → 0 < u
    → Between alo ahi u a → Between blo bhi u b → Between (down (alo * blo) u) (up (ahi * bhi) u) u (times a b)
unfolding times
times-between u a b alo ahi blo bhi positive p q = record {
  proper = mul-pos p.proper q.proper;
  above = product_above u alo a.den a.num blo b.den b.num (down (alo * blo) u) positive (down-le (alo * blo) u) p.above q.above;
  below = product_below u ahi a.den a.num bhi b.den b.num (up (ahi * bhi) u) positive (le-up (ahi * bhi) u positive) p.below q.below;
}

-- bounds in units become bounds in units of another scale
pub scaled-between : (u amount : ℕ) (a : Fraction) (lo hi : ℕ) → 0 < u
    → Between lo hi u a → Between (down (amount * lo) u) (up (amount * hi) u) amount a
scaled-between u amount a lo hi positive p =
    let low = mul-le-mul_right a.den (down-le (amount * lo) u) in
    let high = mul-le-mul_right a.den (le-up (amount * hi) u positive) in
    let above' = mul-le-mul_left amount p.above in
    let below' = mul-le-mul_left amount p.below in
    let spread_above : (down (amount * lo) u * a.den) * u ≤ (amount * a.num) * u = omega arith in
    let spread_below : (amount * a.num) * u ≤ (up (amount * hi) u * a.den) * u = omega arith in
    record {
      proper = p.proper;
      above = le_of_mul-le-mul_right spread_above positive;
      below = le_of_mul-le-mul_right spread_below positive;
    }

-- bounds of a value are bounds of an equal one
pub equal-between : (lo hi u : ℕ) (a b : Fraction) → 0 < b.den → a.num * b.den ≡ b.num * a.den
    → Between lo hi u a → Between lo hi u b
equal-between lo hi u a b positive same p =
    let low = mul-le-mul_right b.den p.above in
    let high = mul-le-mul_right b.den p.below in
    let spread_above : (lo * b.den) * a.den ≤ (u * b.num) * a.den = omega (arith, ap (λ n. u * n) same) in
    let spread_below : (u * b.num) * a.den ≤ (hi * b.den) * a.den = omega (arith, ap (λ n. u * n) same) in
    record {
      proper = positive;
      above = le_of_mul-le-mul_right spread_above p.proper;
      below = le_of_mul-le-mul_right spread_below p.proper;
    }
