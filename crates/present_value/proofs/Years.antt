-- The sums of one year from those of the next.
use Rattle.present_value.proofs.Names.{◌≡◌, ℕ, zero, suc, ◌+◌, ◌-◌, ◌*◌, ◌^◌, ◌<◌, refl, sym, ◌∙◌, arith, true, false, if◌then◌else◌, add-zero, one-mul, mul-one, Cover, year, survival, death, survivors, sum_below, sum_below-is, ben, ann}
use Rattle.std.proofs.Math.Nat.{mul-add, mul_assoc, mul-zero}

-- the first term separately, and a common factor of all the others
sum_first : (a : ℕ) (f g : ℕ → ℕ) (count : ℕ) → ((k : ℕ) → k < count → f (suc k) ≡ a * g k)
    → sum_below f (suc count) ≡ f 0 + a * sum_below g count
unfolding sum_below
sum_first a f g zero same = omega (arith, mul-zero a)
sum_first a f g (suc count) same =
    let before = sum_first a f g count (λ k below. same k (omega arith)) in
    let last = same count (omega arith) in
    let spread = mul-add a (sum_below g count) (g count) in
    omega arith

-- those alive k + 1 years later are those, among the ones alive one year later, who are alive k years after that
survivors_first : (c : Cover) (t k : ℕ) → survivors c t (suc k) ≡ survival c t * survivors c (suc t) k
unfolding survivors
survivors_first c t zero = rw (add-zero t) (one-mul _ ∙ sym (mul-one _))
survivors_first c t (suc k) =
    let before = survivors_first c t k in
    let same : t + suc k ≡ suc t + k = omega arith in
    rw (before, same) (mul_assoc _ _ _)

unfoldable pub ben_terms : Cover → ℕ → ℕ → ℕ → ℕ
ben_terms c t left k = survivors c t k * death c (t + k) * year c ^ (left - k - 1)

unfoldable pub ben_num : Cover → ℕ → ℕ → ℕ
ben_num c t left = sum_below (ben_terms c t left) left + (if c.matures then survivors c t left else 0)

ben_first : (c : Cover) (t left : ℕ) → ben_terms c t (suc left) 0 ≡ death c t * year c ^ left
unfolding ben_terms survivors
ben_first c t left =
    let power : suc left - 0 - 1 ≡ left = omega arith in
    rw (add-zero t, power, one-mul (death c t)) refl

ben_later : (c : Cover) (t left k : ℕ) → k < left
    → ben_terms c t (suc left) (suc k) ≡ survival c t * ben_terms c (suc t) left k
unfolding ben_terms
ben_later c t left k below =
    let power : suc left - suc k - 1 ≡ left - k - 1 = omega arith in
    let place : t + suc k ≡ suc t + k = omega arith in
    rw (survivors_first c t k, power, place)
    (omega arith)

ben_matures : (c : Cover) (t left : ℕ)
    → (if c.matures then survivors c t (suc left) else 0) ≡ survival c t * (if c.matures then survivors c (suc t) left else 0)
ben_matures c t left = elim c.matures as (λ b. (if b then survivors c t (suc left) else 0) ≡ survival c t * (if b then survivors c (suc t) left else 0)) [
  | true ↦ survivors_first c t left
  | false ↦ sym (mul-zero _)
]

pub ben_step : (c : Cover) (t left : ℕ)
    → ben_num c t (suc left) ≡ death c t * year c ^ left + survival c t * ben_num c (suc t) left
unfolding ben_num
ben_step c t left =
    let sums = sum_first (survival c t) (ben_terms c t (suc left)) (ben_terms c (suc t) left) left (ben_later c t left) in
    let first = ben_first c t left in
    let last = ben_matures c t left in
    let spread = mul-add (survival c t) (sum_below (ben_terms c (suc t) left) left) (if c.matures then survivors c (suc t) left else 0) in
    omega arith

unfoldable pub ann_terms : Cover → ℕ → ℕ → ℕ → ℕ
ann_terms c t left k = survivors c t k * year c ^ (left - k)

unfoldable pub ann_num : Cover → ℕ → ℕ → ℕ → ℕ
ann_num c t left count = sum_below (ann_terms c t left) count

ann_first : (c : Cover) (t left : ℕ) → ann_terms c t (suc left) 0 ≡ year c ^ suc left
unfolding ann_terms survivors
ann_first c t left = let power : suc left - 0 ≡ suc left = omega arith in rw power (one-mul _)

ann_later : (c : Cover) (t left k : ℕ) → ann_terms c t (suc left) (suc k) ≡ survival c t * ann_terms c (suc t) left k
unfolding ann_terms
ann_later c t left k =
    let power : suc left - suc k ≡ left - k = omega arith in
    rw (survivors_first c t k, power) (mul_assoc _ _ _)

pub ann_step : (c : Cover) (t left count : ℕ)
    → ann_num c t (suc left) (suc count) ≡ year c ^ suc left + survival c t * ann_num c (suc t) left count
unfolding ann_num
ann_step c t left count =
    let sums = sum_first (survival c t) (ann_terms c t (suc left)) (ann_terms c (suc t) left) count (λ k below. ann_later c t left k) in
    let first = ann_first c t left in
    omega arith

pub ben_end : (c : Cover) (t : ℕ) → ben_num c t 0 ≡ (if c.matures then 1 else 0)
unfolding ben_num sum_below survivors
ben_end c t = omega arith

pub ann_end : (c : Cover) (t left : ℕ) → ann_num c t left 0 ≡ 0
unfolding ann_num sum_below
ann_end c t left = refl

-- the values with the years of cover that are left
pub ben_is : (c : Cover) (t left : ℕ) → c.n - t ≡ left
    → ben c t ≡ record { num = ben_num c t left; den = year c ^ left }
unfolding ben ben_num ben_terms
ben_is c t left same = rw (sym same, sum_below-is (ben_terms c t (c.n - t)) (c.n - t)) refl

pub ann_is : (c : Cover) (t left : ℕ) → c.n - t ≡ left
    → ann c t ≡ record { num = ann_num c t left (c.h - t); den = year c ^ left }
unfolding ann ann_num ann_terms
ann_is c t left same = rw (sym same, sum_below-is (ann_terms c t (c.n - t)) (c.h - t)) refl
