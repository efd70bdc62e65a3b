-- Order and equality of fractions: of differences, of products, of the lesser and the greater of two.
use Rattle.deficiency_reserve.proofs.Names.{◌≡◌, ℕ, zero, suc, ◌-◌, ◌*◌, ◌<◌, ◌≤◌, refl, false, nat_le, inl, inr, arith, Fraction, less, times, lesser, greater, IsAtMost, AreEqual}
use Rattle.std.proofs.Math.Nat.{mul-le-mul_left, mul-le-mul_right, mul-sub, mul_comm, mul-zero, zero-mul, le_of_mul-le-mul_right}
use Rattle.std.proofs.lemmas.Bool.Decides.{leb_tells}

pub at_most-trans : (a b c : Fraction) → 0 < b.den → IsAtMost a b → IsAtMost b c → IsAtMost a c
at_most-trans a b c positive p q =
    let p' = mul-le-mul_right c.den p in
    let q' = mul-le-mul_right a.den q in
    let spread : (a.num * c.den) * b.den ≤ (c.num * a.den) * b.den = omega arith in
    le_of_mul-le-mul_right spread positive

-- differences, of which the second part is scaled as the first
difference_most : (p q k p' q' k' : ℕ) → k * p ≡ k' * p' → k' * q' ≤ k * q → (p - q) * k ≤ (p' - q') * k'
difference_most p q k p' q' k' e f =
    rw (mul_comm (p - q) k, mul-sub k p q, mul_comm (p' - q') k', mul-sub k' p' q', e) (omega (arith, f))

crossed_most : (xd an ad bn bd : ℕ) → an * bd ≤ bn * ad → (xd * bd) * (an * xd) ≤ (xd * ad) * (bn * xd)
crossed_most xd an ad bn bd most = let spread = mul-le-mul_left (xd * xd) most in omega arith

crossed_first : (xn xd ad bd : ℕ) → (xd * bd) * (xn * ad) ≡ (xd * ad) * (xn * bd)
crossed_first xn xd ad bd = omega arith

pub less-antitone : (x a b : Fraction) → IsAtMost a b → IsAtMost (less x b) (less x a)
unfolding less
less-antitone x a b most = difference_most (x.num * b.den) (b.num * x.den) (x.den * a.den) (x.num * a.den) (a.num * x.den) (x.den * b.den)
    (crossed_first x.num x.den b.den a.den) (crossed_most x.den a.num a.den b.num b.den most)

pub times-monotone : (a b x : Fraction) → IsAtMost a b → IsAtMost (times a x) (times b x)
unfolding times
times-monotone a b x most = let spread = mul-le-mul_left (x.num * x.den) most in omega arith

-- the lesser

pub lesser-first : (a b : Fraction) → IsAtMost a b → lesser a b ≡ a
unfolding lesser
lesser-first a b most = elim (leb_tells (a.num * b.den) (b.num * a.den)) [
  | inl h ↦ rw h.0 refl
  | inr h ↦ absurd (omega (arith, h.1, most))
]

pub lesser-second : (a b : Fraction) → nat_le (a.num * b.den) (b.num * a.den) ≡ false → lesser a b ≡ b
unfolding lesser
lesser-second a b above = rw above refl

pub lesser-proper : (a b : Fraction) → 0 < a.den → 0 < b.den → 0 < (lesser a b).den
unfolding lesser
lesser-proper a b p q = elim (leb_tells (a.num * b.den) (b.num * a.den)) [
  | inl h ↦ rw h.0 p
  | inr h ↦ rw h.0 q
]

lesser-left : (a b : Fraction) → IsAtMost (lesser a b) a
unfolding lesser
lesser-left a b = elim (leb_tells (a.num * b.den) (b.num * a.den)) [
  | inl h ↦ rw h.0 (omega arith)
  | inr h ↦ rw h.0 (omega (arith, h.1))
]

lesser-right : (a b : Fraction) → IsAtMost (lesser a b) b
unfolding lesser
lesser-right a b = elim (leb_tells (a.num * b.den) (b.num * a.den)) [
  | inl h ↦ rw h.0 h.1
  | inr h ↦ rw h.0 (omega arith)
]

-- what is at most both is at most the lesser
lesser-least : (x a b : Fraction) → IsAtMost x a → IsAtMost x b → IsAtMost x (lesser a b)
unfolding lesser
lesser-least x a b p q = elim (leb_tells (a.num * b.den) (b.num * a.den)) [
  | inl h ↦ rw h.0 p
  | inr h ↦ rw h.0 q
]

pub lesser-monotone : (a b more : Fraction) → 0 < b.den → IsAtMost b more → IsAtMost (lesser a b) (lesser a more)
lesser-monotone a b more positive most =
    lesser-least (lesser a b) a more (lesser-left a b) (at_most-trans (lesser a b) b more positive (lesser-right a b) most)

-- the greater

pub greater-left : (a b : Fraction) → IsAtMost a (greater a b)
unfolding greater
greater-left a b = elim (leb_tells (a.num * b.den) (b.num * a.den)) [
  | inl h ↦ rw h.0 h.1
  | inr h ↦ rw h.0 (omega arith)
]

greater-right : (a b : Fraction) → IsAtMost b (greater a b)
unfolding greater
greater-right a b = elim (leb_tells (a.num * b.den) (b.num * a.den)) [
  | inl h ↦ rw h.0 (omega arith)
  | inr h ↦ rw h.0 (omega (arith, h.1))
]

greater-most : (x a b : Fraction) → IsAtMost a x → IsAtMost b x → IsAtMost (greater a b) x
unfolding greater
greater-most x a b p q = elim (leb_tells (a.num * b.den) (b.num * a.den)) [
  | inl h ↦ rw h.0 q
  | inr h ↦ rw h.0 p
]

pub greater-monotone : (a b more : Fraction) → 0 < more.den → IsAtMost b more → IsAtMost (greater a b) (greater a more)
greater-monotone a b more positive most =
    greater-most (greater a more) a b (greater-left a more) (at_most-trans b more (greater a more) positive most (greater-right a more))

-- if both are equal to a value, so is the greater
pub greater-equal : (x a b : Fraction) → AreEqual a x → AreEqual b x → AreEqual (greater a b) x
unfolding greater
greater-equal x a b p q = elim (leb_tells (a.num * b.den) (b.num * a.den)) [
  | inl h ↦ rw h.0 q
  | inr h ↦ rw h.0 p
]

pub greater-proper : (a b : Fraction) → 0 < a.den → 0 < b.den → 0 < (greater a b).den
unfolding greater
greater-proper a b p q = elim (leb_tells (a.num * b.den) (b.num * a.den)) [
  | inl h ↦ rw h.0 q
  | inr h ↦ rw h.0 p
]

-- a factor of what isn't 0 isn't 0
pub middle-pos : (a b c : ℕ) → 0 < a * (b * c) → 0 < b
middle-pos a zero c p = absurd (omega (arith, rw (zero-mul c, mul-zero a) at p))
middle-pos a (suc b) c p = omega arith
