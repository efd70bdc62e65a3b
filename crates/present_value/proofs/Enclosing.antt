-- The rounded values enclose the exact ones, and their bounds differ by at most as many units as there are years
-- left.
use Rattle.present_value.proofs.Names.{◌≡◌, ℕ, zero, suc, ◌+◌, ◌-◌, ◌*◌, ◌^◌, ◌<◌, ◌≤◌, arith, Bool, true, false, if◌then◌else◌, inl, inr, leb_tells, ONE, Between, Cover, year, UNIT, down, up, benefit_dividend, annuity_dividend, rounded_ben, rounded_ann}
use Rattle.std.proofs.Math.Nat.{mul-le-mul_left, mul-le-mul_right, mul-pos, pow-succ', pow-zero, one-le-pow}
use Rattle.present_value.proofs.Quotients.{down-le, le-up, apart, up-le}
use Rattle.present_value.proofs.Years.{ben_num, ann_num, ben_step, ann_step, ben_end, ann_end}

pub year_pos : (c : Cover) → 0 < year c
year_pos c = omega arith

pub power_pos : (c : Cover) (k : ℕ) → 0 < year c ^ k
power_pos c k = let h = one-le-pow k (year c) (year_pos c) in omega arith

-- one year of benefits, the lower and the upper bound
ben_above : (u p n w r q lo x : ℕ) → x * w ≤ 10000 * (r * u + q * lo) → lo * p ≤ u * n
    → x * (w * p) ≤ u * (10000 * r * p + 10000 * q * n)
ben_above u p n w r q lo x e h =
    let e' = mul-le-mul_right p e in
    let h' = mul-le-mul_left (10000 * q) h in
    omega arith

ben_below : (u p n w r q hi x : ℕ) → 10000 * (r * u + q * hi) ≤ x * w → u * n ≤ hi * p
    → u * (10000 * r * p + 10000 * q * n) ≤ x * (w * p)
ben_below u p n w r q hi x e h =
    let e' = mul-le-mul_right p e in
    let h' = mul-le-mul_left (10000 * q) h in
    omega arith

-- one year of premiums, the lower and the upper bound
ann_above : (u p n w q lo x : ℕ) → x * w ≤ 10000 * q * lo → lo * p ≤ u * n
    → (u + x) * (w * p) ≤ u * (w * p + 10000 * q * n)
ann_above u p n w q lo x e h =
    let e' = mul-le-mul_right p e in
    let h' = mul-le-mul_left (10000 * q) h in
    omega arith

ann_below : (u p n w q hi x : ℕ) → 10000 * q * hi ≤ x * w → u * n ≤ hi * p
    → u * (w * p + 10000 * q * n) ≤ (u + x) * (w * p)
ann_below u p n w q hi x e h =
    let e' = mul-le-mul_right p e in
    let h' = mul-le-mul_left (10000 * q) h in
    omega arith

pub ben_between : (c : Cover) (t left : ℕ) → t + left ≡ c.n
    → Between (rounded_ben down c left) (rounded_ben up c left) UNIT (record { num = ben_num c t left; den = year c ^ left })
unfolding rounded_ben
ben_between c t zero whole = rw (ben_end c t, pow-zero (year c)) (matured c.matures)
  where
    matured : (b : Bool) → Between (if b then UNIT else 0) (if b then UNIT else 0) UNIT (record { num = if b then 1 else 0; den = 1 })
    matured true = record { proper = omega arith; above = omega arith; below = omega arith }
    matured false = record { proper = omega arith; above = omega arith; below = omega arith }
ben_between c t (suc left) whole =
    let later = ben_between c (suc t) left (omega arith) in
    let place : c.n - suc left ≡ t = omega arith in
    let lo = rounded_ben down c left in
    let hi = rounded_ben up c left in
    rw (ben_step c t left, pow-succ' (year c) left, place) (record {
      proper = mul-pos (year_pos c) (power_pos c left);
      above = ben_above UNIT (year c ^ left) (ben_num c (suc t) left) (year c) (c.rates t) (ONE - c.rates t) lo
          (down (benefit_dividend (c.rates t) lo) (year c)) (down-le (benefit_dividend (c.rates t) lo) (year c)) later.above;
      below = ben_below UNIT (year c ^ left) (ben_num c (suc t) left) (year c) (c.rates t) (ONE - c.rates t) hi
          (up (benefit_dividend (c.rates t) hi) (year c)) (le-up (benefit_dividend (c.rates t) hi) (year c) (year_pos c)) later.below;
    })

pub ann_between : (c : Cover) (t left : ℕ) → c.h ≤ c.n → t + left ≡ c.n
    → Between (rounded_ann down c left) (rounded_ann up c left) UNIT (record { num = ann_num c t left (c.h - t); den = year c ^ left })
unfolding rounded_ann
ann_between c t zero covered whole =
    let none : c.h - t ≡ 0 = omega arith in
    rw (none, ann_end c t 0, pow-zero (year c)) (record { proper = omega arith; above = omega arith; below = omega arith })
ann_between c t (suc left) covered whole =
    let later = ann_between c (suc t) left covered (omega arith) in
    let place : c.n - suc left ≡ t = omega arith in
    let lo = rounded_ann down c left in
    let hi = rounded_ann up c left in
    rw place (elim (leb_tells (suc t) c.h) [
      | inl h ↦
          let count : c.h - t ≡ suc (c.h - suc t) = omega arith in
          rw (h.0, count, ann_step c t left (c.h - suc t), pow-succ' (year c) left) (record {
            proper = mul-pos (year_pos c) (power_pos c left);
            above = ann_above UNIT (year c ^ left) (ann_num c (suc t) left (c.h - suc t)) (year c) (ONE - c.rates t) lo
                (down (annuity_dividend (c.rates t) lo) (year c)) (down-le (annuity_dividend (c.rates t) lo) (year c)) later.above;
            below = ann_below UNIT (year c ^ left) (ann_num c (suc t) left (c.h - suc t)) (year c) (ONE - c.rates t) hi
                (up (annuity_dividend (c.rates t) hi) (year c)) (le-up (annuity_dividend (c.rates t) hi) (year c) (year_pos c)) later.below;
          })
      | inr h ↦
          let none : c.h - t ≡ 0 = omega arith in
          rw (h.0, none, ann_end c t (suc left)) (record {
            proper = power_pos c (suc left);
            above = omega arith;
            below = omega arith;
          })
    ])

-- the upper value of a year is at most as many units above the lower one as years are left
survival_le : (c : Cover) (r left : ℕ) → 10000 * (ONE - r) * left ≤ left * year c
survival_le c r left =
    let part : 10000 * (ONE - r) ≤ year c = omega arith in
    let spread = mul-le-mul_right left part in
    omega arith

pub ben_narrow : (c : Cover) (left : ℕ) → rounded_ben up c left ≤ rounded_ben down c left + left
unfolding rounded_ben
ben_narrow c zero = omega arith
ben_narrow c (suc left) =
    let later = ben_narrow c left in
    let r = c.rates (c.n - suc left) in
    let lo = rounded_ben down c left in
    let hi = rounded_ben up c left in
    let spread = mul-le-mul_left (10000 * (ONE - r)) later in
    let part = survival_le c r left in
    let near : benefit_dividend r hi ≤ benefit_dividend r lo + left * year c = omega arith in
    let bound = apart (benefit_dividend r hi) (benefit_dividend r lo) (year c) left (year_pos c) near in
    omega arith

pub ann_narrow : (c : Cover) (left : ℕ) → rounded_ann up c left ≤ rounded_ann down c left + left
unfolding rounded_ann
ann_narrow c zero = omega arith
ann_narrow c (suc left) =
    let later = ann_narrow c left in
    let r = c.rates (c.n - suc left) in
    let lo = rounded_ann down c left in
    let hi = rounded_ann up c left in
    let spread = mul-le-mul_left (10000 * (ONE - r)) later in
    let part = survival_le c r left in
    let near : annuity_dividend r hi ≤ annuity_dividend r lo + left * year c = omega arith in
    let bound = apart (annuity_dividend r hi) (annuity_dividend r lo) (year c) left (year_pos c) near in
    elim (leb_tells (suc (c.n - suc left)) c.h) [
      | inl h ↦ rw h.0 (omega arith)
      | inr h ↦ rw h.0 (omega arith)
    ]

-- the benefits are at most 1, and each year's premium at most 1
pub ben_most : (c : Cover) (left : ℕ) → left ≤ c.n → ((k : ℕ) → k < c.n → c.rates k ≤ ONE) → rounded_ben up c left ≤ UNIT
unfolding rounded_ben
ben_most c zero within rates = elim c.matures as (λ b. (if b then UNIT else 0) ≤ UNIT) [ true ↦ omega arith | false ↦ omega arith ]
ben_most c (suc left) within rates =
    let later = ben_most c left (omega arith) rates in
    let r = c.rates (c.n - suc left) in
    let hi = rounded_ben up c left in
    let rate : r ≤ ONE = rates (c.n - suc left) (omega arith) in
    let spread = mul-le-mul_left (10000 * (ONE - r)) later in
    let most : benefit_dividend r hi ≤ UNIT * year c = omega arith in
    up-le (benefit_dividend r hi) (year c) UNIT (year_pos c) most

pub ann_most : (c : Cover) (left : ℕ) → rounded_ann up c left ≤ left * UNIT
unfolding rounded_ann
ann_most c zero = omega arith
ann_most c (suc left) =
    let later = ann_most c left in
    let r = c.rates (c.n - suc left) in
    let hi = rounded_ann up c left in
    let part = survival_le c r hi in
    let bound = up-le (annuity_dividend r hi) (year c) hi (year_pos c) part in
    elim (leb_tells (suc (c.n - suc left)) c.h) [
      | inl h ↦ rw h.0 (omega arith)
      | inr h ↦ rw h.0 (omega arith)
    ]

-- while premiums fall due the annuity is at least 1
pub ann_least : (c : Cover) (left : ℕ) → 0 < left → c.n - left < c.h → UNIT ≤ rounded_ann down c left
unfolding rounded_ann
ann_least c zero some due = omega arith
ann_least c (suc left) some due = elim (leb_tells (suc (c.n - suc left)) c.h) [
  | inl h ↦ rw h.0 (omega arith)
  | inr h ↦ absurd (omega (arith, h.1))
]
