-- Why the mean reserve is between the terminal ones.
use Rattle.present_value.proofs.Names.{◌≡◌, ℕ, suc, ◌+◌, ◌*◌, ◌<◌, ◌≤◌, refl, inl, inr, arith, leb_tells, Fraction, whole, plus, over, Cover, survivors, ben, net_premium, mean_reserve, paid_up_mean}
use Rattle.std.proofs.Math.Nat.{mul-le-mul_left}
use Rattle.present_value.specs.Reserve.{reserve}
use Rattle.present_value.specs.MeanLaws.{LiesWithin, LiesBetween, LiesBetweenLaw, NoPremiumLaw, paying}

-- half of a sum of three, x over p and y over q around n over d, where x over p is the lesser: as numbers
above : (x p n d y q : ℕ) → x * q ≤ y * p → (x * (d * 2) + (n * 1) * p) * ((p * d * q) * 2) ≤ (((x * d + n * p) * q + y * (p * d)) * 1) * (p * (d * 2))
above x p n d y q order = let wide = mul-le-mul_left (2 * p * d * d) order in omega arith

below : (x p n d y q : ℕ) → x * q ≤ y * p → (((x * d + n * p) * q + y * (p * d)) * 1) * (q * (d * 2)) ≤ (y * (d * 2) + (n * 1) * q) * ((p * d * q) * 2)
below x p n d y q order = let wide = mul-le-mul_left (2 * d * d * q) order in omega arith

half_within : (x net y : Fraction) → x.num * y.den ≤ y.num * x.den → LiesWithin (plus x (over net (whole 2))) (plus y (over net (whole 2))) (over (plus (plus x net) y) (whole 2))
unfolding over whole plus
half_within x net y order = record {
  above = above x.num x.den net.num net.den y.num y.den order;
  below = below x.num x.den net.num net.den y.num y.den order;
}

-- the same, if it is the greater
falling_above : (x p n d y q : ℕ) → y * p ≤ x * q → (y * (d * 2) + (n * 1) * q) * ((p * d * q) * 2) ≤ (((x * d + n * p) * q + y * (p * d)) * 1) * (q * (d * 2))
falling_above x p n d y q order = let wide = mul-le-mul_left (2 * d * d * q) order in omega arith

falling_below : (x p n d y q : ℕ) → y * p ≤ x * q → (((x * d + n * p) * q + y * (p * d)) * 1) * (p * (d * 2)) ≤ (x * (d * 2) + (n * 1) * p) * ((p * d * q) * 2)
falling_below x p n d y q order = let wide = mul-le-mul_left (2 * p * d * d) order in omega arith

half_within_falling : (x net y : Fraction) → y.num * x.den ≤ x.num * y.den → LiesWithin (plus y (over net (whole 2))) (plus x (over net (whole 2))) (over (plus (plus x net) y) (whole 2))
unfolding over whole plus
half_within_falling x net y order = record {
  above = falling_above x.num x.den net.num net.den y.num y.den order;
  below = falling_below x.num x.den net.num net.den y.num y.den order;
}

half_between : (x net y : Fraction) → LiesBetween (plus x (over net (whole 2))) (plus y (over net (whole 2))) (over (plus (plus x net) y) (whole 2))
half_between x net y = elim (leb_tells (x.num * y.den) (y.num * x.den)) [
  | inl h ↦ inl (half_within x net y h.1)
  | inr h ↦ inr (half_within_falling x net y (omega (arith, h.1)))
]

pub mean_between : LiesBetweenLaw
unfolding mean_reserve
mean_between c cap t before = elim (leb_tells (suc t) c.n) [
  | inl h ↦ rw h.0 (half_between (reserve c cap t) (net_premium c cap t) (reserve c cap (t + 1)))
  | inr h ↦ absurd (omega (arith, before, h.1))
]

pub mean_end : (c cap : Cover) → mean_reserve c cap c.n ≡ reserve c cap c.n
unfolding mean_reserve
mean_end c cap = elim (leb_tells (suc c.n) c.n) [
  | inl h ↦ absurd (omega (arith, h.1))
  | inr h ↦ rw h.0 refl
]

-- for a paid-up policy

plain_above : (x p y q : ℕ) → x * q ≤ y * p → x * ((p * q) * 2) ≤ ((x * q + y * p) * 1) * p
plain_above x p y q order = let wide = mul-le-mul_left p order in omega arith

plain_below : (x p y q : ℕ) → x * q ≤ y * p → ((x * q + y * p) * 1) * q ≤ y * ((p * q) * 2)
plain_below x p y q order = let wide = mul-le-mul_left q order in omega arith

plain_falling_above : (x p y q : ℕ) → y * p ≤ x * q → y * ((p * q) * 2) ≤ ((x * q + y * p) * 1) * q
plain_falling_above x p y q order = let wide = mul-le-mul_left q order in omega arith

plain_falling_below : (x p y q : ℕ) → y * p ≤ x * q → ((x * q + y * p) * 1) * p ≤ x * ((p * q) * 2)
plain_falling_below x p y q order = let wide = mul-le-mul_left p order in omega arith

plain_between : (x y : Fraction) → LiesBetween x y (over (plus x y) (whole 2))
unfolding over whole plus
plain_between x y = elim (leb_tells (x.num * y.den) (y.num * x.den)) [
  | inl h ↦ inl (record { above = plain_above x.num x.den y.num y.den h.1; below = plain_below x.num x.den y.num y.den h.1 })
  | inr h ↦
      let order : y.num * x.den ≤ x.num * y.den = omega (arith, h.1) in
      inr (record { above = plain_falling_above x.num x.den y.num y.den order; below = plain_falling_below x.num x.den y.num y.den order })
]

paid_up_between : (c : Cover) (t : ℕ) → t < c.n → LiesBetween (ben c t) (ben c (t + 1)) (paid_up_mean c t)
unfolding paid_up_mean
paid_up_between c t before = elim (leb_tells (suc t) c.n) [
  | inl h ↦ rw h.0 (plain_between (ben c t) (ben c (t + 1)))
  | inr h ↦ absurd (omega (arith, before, h.1))
]

paid_up_end : (c : Cover) → paid_up_mean c c.n ≡ ben c c.n
unfolding paid_up_mean
paid_up_end c = elim (leb_tells (suc c.n) c.n) [
  | inl h ↦ absurd (omega (arith, h.1))
  | inr h ↦ rw h.0 refl
]

-- the benefits don't see the years of premiums
same_benefits : (c : Cover) (h t : ℕ) → ben (paying c h) t ≡ ben c t
unfolding ben survivors
same_benefits c h t = refl

paid_up_same : (c : Cover) (h t : ℕ) → paid_up_mean (paying c h) t ≡ paid_up_mean c t
unfolding paid_up_mean
paid_up_same c h t = rw (same_benefits c h t, same_benefits c h (t + 1)) refl

pub no_premium : NoPremiumLaw
no_premium = record { same = paid_up_same; between = paid_up_between; end = paid_up_end }
