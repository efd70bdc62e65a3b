-- The rounded mean reserve encloses the exact one, and its bounds are close together.
use Rattle.crvm_reserve.proofs.Names.{◌≡◌, ℕ, zero, suc, ◌+◌, ◌*◌, ◌<◌, ◌≤◌, refl, subst, ap, ap₂, inl, inr, arith, Fraction, Between, whole, plus, over, Cover, ben, reserve, Encloses, UNIT, down, up, ben_lo, ben_hi, plus-between, less-between, scaled-between, apart, up-le, ben-between, ben-narrow, rounded, rounded_paid_up, net_lo, net_hi, double_lo, double_hi, mean_lo, mean_hi, rounded_mean, paid_up_mean_lo, paid_up_mean_hi, rounded_paid_up_mean, IsReserved, AreClose, net_bound}
use Rattle.std.proofs.Math.Nat.{mul-le-mul_left, mul-le-mul_right}
use Rattle.std.proofs.lemmas.Bool.Decides.{leb_tells}
use Rattle.present_value.specs.Mean.{net_premium, mean_reserve, paid_up_mean}
use Rattle.crvm_reserve.proofs.Enclosed.{excess-between, excess-narrow, beta-between, beta-narrow, reserve-between, reserve-narrow, amount-encloses}
use Rattle.crvm_reserve.proofs.PaidUp.{paid_up-encloses}

-- the net premium

nothing-between : Between 0 0 UNIT (whole 0)
unfolding whole
nothing-between = record { proper = omega arith; above = omega arith; below = omega arith }

pub net-between : (c cap : Cover) (t : ℕ) → IsReserved c cap → Between (net_lo c cap t) (net_hi c cap t) UNIT (net_premium c cap t)
unfolding net_bound net_premium
net-between c cap zero r = less-between UNIT _ _ _ _ _ _ (beta-between c cap r) (excess-between c cap r)
net-between c cap (suc t) r = elim (leb_tells (suc (suc t)) c.h) [
  | inl h ↦ rw h.0 (beta-between c cap r)
  | inr h ↦ rw h.0 nothing-between
]

net-narrow : (c cap : Cover) (t : ℕ) → IsReserved c cap → net_hi c cap t ≤ net_lo c cap t + 1000
unfolding net_bound
net-narrow c cap zero r =
    let near = beta-narrow c cap r in
    let excess_near = excess-narrow c cap r in
    omega arith
net-narrow c cap (suc t) r =
    let near = beta-narrow c cap r in
    elim (leb_tells (suc (suc t)) c.h) [
      | inl h ↦ rw h.0 (omega arith)
      | inr h ↦ rw h.0 (omega arith)
    ]

-- each bound differs by at most 100,000 units from the exact net premium
pub net-close : (c cap : Cover) (t : ℕ) → IsReserved c cap → AreClose (net_lo c cap t) (net_hi c cap t) (net_premium c cap t)
net-close c cap t r =
    let between = net-between c cap t r in
    let near = mul-le-mul_right (net_premium c cap t).den (net-narrow c cap t r) in
    record {
      between = between;
      low = omega (arith, between.below);
      high = omega (arith, between.above);
    }

-- half of a sum

half-between : (u lo hi : ℕ) (a : Fraction) → Between lo hi u a → Between lo hi (2 * u) (over a (whole 2))
unfolding over whole
half-between u lo hi a p = record {
  proper = omega (arith, p.proper);
  above = omega (arith, p.above);
  below = omega (arith, p.below);
}

half-encloses : (amount lo hi : ℕ) (a : Fraction) → Between lo hi UNIT a → hi ≤ lo + 300000 → amount ≤ 10000000000
    → Encloses (down (amount * lo) (2 * UNIT)) (up (amount * hi) (2 * UNIT)) amount (over a (whole 2))
half-encloses amount lo hi a p narrow most =
    let near = mul-le-mul_left amount narrow in
    let bound = apart (amount * hi) (amount * lo) (2 * UNIT) 1 (omega arith) (omega arith) in
    record {
      between = scaled-between (2 * UNIT) amount (over a (whole 2)) lo hi (omega arith) (half-between UNIT lo hi a p);
      narrow = omega arith;
    }

-- half of a sum of at most k doubles is at most k times the amount
pub half-most : (amount hi k : ℕ) → hi ≤ k * (2 * UNIT) → up (amount * hi) (2 * UNIT) ≤ k * amount
half-most amount hi k most =
    let bound = mul-le-mul_left amount most in
    up-le (amount * hi) (2 * UNIT) (k * amount) (omega arith) (omega arith)

-- a pair from its two bounds
pub pair_is : (pair : ℕ × ℕ) (lo hi : ℕ) → pair.0 ≡ lo → pair.1 ≡ hi → pair ≡ (lo, hi)
pair_is pair lo hi p q = ap₂ (λ (a b : ℕ). (a, b)) p q

-- the mean of a policy in force

double-between : (c cap : Cover) (t : ℕ) → IsReserved c cap → t < c.n
    → Between (double_lo c cap t) (double_hi c cap t) UNIT (plus (plus (reserve c cap t) (net_premium c cap t)) (reserve c cap (t + 1)))
double-between c cap t r before =
    plus-between UNIT _ _ _ _ _ _
    (plus-between UNIT _ _ _ _ _ _ (reserve-between c cap t r (omega arith)) (net-between c cap t r))
    (reserve-between c cap (t + 1) r (omega arith))

double-narrow : (c cap : Cover) (t : ℕ) → IsReserved c cap → t < c.n → double_hi c cap t ≤ double_lo c cap t + 300000
double-narrow c cap t r before =
    let now = reserve-narrow c cap t r (omega arith) in
    let net = net-narrow c cap t r in
    let next = reserve-narrow c cap (t + 1) r (omega arith) in
    omega arith

-- before the end of cover it is half of the sum
mean_is : (c cap : Cover) (amount t : ℕ) → t < c.n
    → (down (amount * double_lo c cap t) (2 * UNIT), up (amount * double_hi c cap t) (2 * UNIT)) ≡ rounded_mean c cap amount t
mean_is c cap amount t before = elim (leb_tells (suc t) c.n) [
  | inl h ↦ rw h.0 refl
  | inr h ↦ absurd (omega (arith, h.1))
]

pub mean_before : (c cap : Cover) (amount t lo hi : ℕ) → t < c.n → lo ≡ double_lo c cap t → hi ≡ double_hi c cap t
    → (down (amount * lo) (2 * UNIT) ≡ mean_lo c cap amount t) × (up (amount * hi) (2 * UNIT) ≡ mean_hi c cap amount t)
mean_before c cap amount t lo hi before p q =
    let is = mean_is c cap amount t before in
    rw (p, q) (ap (λ (pair : ℕ × ℕ). pair.0) is, ap (λ (pair : ℕ × ℕ). pair.1) is)

-- at the end of cover it is the terminal reserve
pub mean_end : (c cap : Cover) (amount t : ℕ) → c.n ≤ t → rounded c cap amount t ≡ rounded_mean c cap amount t
mean_end c cap amount t after = elim (leb_tells (suc t) c.n) [
  | inl h ↦ absurd (omega (arith, h.1))
  | inr h ↦ rw h.0 refl
]

pub mean-encloses : (c cap : Cover) (amount t : ℕ) → IsReserved c cap → t ≤ c.n → amount ≤ 10000000000
    → Encloses (mean_lo c cap amount t) (mean_hi c cap amount t) amount (mean_reserve c cap t)
unfolding mean_reserve
mean-encloses c cap amount t r within most =
    let encloses : ℕ × ℕ → Type 0 = λ pair. Encloses pair.0 pair.1 amount (mean_reserve c cap t) in
    elim (leb_tells (suc t) c.n) [
      | inl h ↦ subst encloses (mean_is c cap amount t h.1)
          (rw h.0 (half-encloses amount _ _ _ (double-between c cap t r h.1) (double-narrow c cap t r h.1) most))
      | inr h ↦ subst encloses (mean_end c cap amount t (omega (arith, h.1))) (rw h.0 (amount-encloses c cap amount t r within most))
    ]

pub mean_reserve_end : (c cap : Cover) (t : ℕ) → c.n ≤ t → mean_reserve c cap t ≡ reserve c cap t
unfolding mean_reserve
mean_reserve_end c cap t after = elim (leb_tells (suc t) c.n) [
  | inl h ↦ absurd (omega (arith, h.1))
  | inr h ↦ rw h.0 refl
]

-- the mean of a paid-up policy

paid_up_mean_is : (c : Cover) (amount t : ℕ) → t < c.n
    → (down (amount * (ben_lo c t + ben_lo c (t + 1))) (2 * UNIT), up (amount * (ben_hi c t + ben_hi c (t + 1))) (2 * UNIT))
    ≡ rounded_paid_up_mean c amount t
paid_up_mean_is c amount t before = elim (leb_tells (suc t) c.n) [
  | inl h ↦ rw h.0 refl
  | inr h ↦ absurd (omega (arith, h.1))
]

pub paid_up_mean_before : (c : Cover) (amount t lo hi : ℕ) → t < c.n → lo ≡ ben_lo c t + ben_lo c (t + 1) → hi ≡ ben_hi c t + ben_hi c (t + 1)
    → (down (amount * lo) (2 * UNIT) ≡ paid_up_mean_lo c amount t) × (up (amount * hi) (2 * UNIT) ≡ paid_up_mean_hi c amount t)
paid_up_mean_before c amount t lo hi before p q =
    let is = paid_up_mean_is c amount t before in
    rw (p, q) (ap (λ (pair : ℕ × ℕ). pair.0) is, ap (λ (pair : ℕ × ℕ). pair.1) is)

pub paid_up_mean_end : (c : Cover) (amount t : ℕ) → c.n ≤ t → rounded_paid_up c amount t ≡ rounded_paid_up_mean c amount t
paid_up_mean_end c amount t after = elim (leb_tells (suc t) c.n) [
  | inl h ↦ absurd (omega (arith, h.1))
  | inr h ↦ rw h.0 refl
]

pub paid_up_mean-encloses : (c : Cover) (amount t : ℕ) → c.n ≤ 131 → t ≤ c.n → amount ≤ 10000000000
    → Encloses (paid_up_mean_lo c amount t) (paid_up_mean_hi c amount t) amount (paid_up_mean c t)
unfolding paid_up_mean
paid_up_mean-encloses c amount t years within most =
    let encloses : ℕ × ℕ → Type 0 = λ pair. Encloses pair.0 pair.1 amount (paid_up_mean c t) in
    elim (leb_tells (suc t) c.n) [
      | inl h ↦
          let before = h.1 in
          let now : ben_hi c t ≤ ben_lo c t + 131 = omega (arith, ben-narrow c t) in
          let next : ben_hi c (t + 1) ≤ ben_lo c (t + 1) + 131 = omega (arith, ben-narrow c (t + 1)) in
          let between = plus-between UNIT _ _ _ _ _ _ (ben-between c t within) (ben-between c (t + 1) (omega arith)) in
          subst encloses (paid_up_mean_is c amount t before) (rw h.0 (half-encloses amount _ _ _ between (omega arith) most))
      | inr h ↦ subst encloses (paid_up_mean_end c amount t (omega (arith, h.1))) (rw h.0 (paid_up-encloses c amount t years within most))
    ]

pub paid_up_mean_reserve_end : (c : Cover) (t : ℕ) → c.n ≤ t → paid_up_mean c t ≡ ben c t
unfolding paid_up_mean
paid_up_mean_reserve_end c t after = elim (leb_tells (suc t) c.n) [
  | inl h ↦ absurd (omega (arith, h.1))
  | inr h ↦ rw h.0 refl
]
