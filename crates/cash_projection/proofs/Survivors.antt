-- The rounded survivors and deaths enclose the exact ones.
use Rattle.cash_projection.proofs.Names.{ℕ, zero, suc, ◌+◌, ◌-◌, ◌*◌, ◌^◌, ◌<◌, ◌≤◌, arith, add-one, ONE, UNIT, down, up, alive, alive_by, dying, dying_by}
use Rattle.std.proofs.Math.Nat.{mul-le-mul_left, mul-le-mul_right, pow-succ', one-le-pow, le_trans, le_of_mul-le-mul_right}
use Rattle.present_value.proofs.Quotients.{down-le, le-up, apart, up-le}

pub one_pos : 0 < ONE
one_pos = omega arith

pub power_pos : (j : ℕ) → 0 < ONE ^ j
power_pos j = let h = one-le-pow j ONE one_pos in omega arith

-- after one more year the part s of w is left
year_above : (u w p n s a x : ℕ) → x * w ≤ a * s → a * p ≤ u * n → x * (w * p) ≤ u * (n * s)
year_above u w p n s a x e h =
    let e' = mul-le-mul_right p e in
    let h' = mul-le-mul_right s h in
    omega arith

year_below : (u w p n s a x : ℕ) → a * s ≤ x * w → u * n ≤ a * p → u * (n * s) ≤ x * (w * p)
year_below u w p n s a x e h =
    let e' = mul-le-mul_right p e in
    let h' = mul-le-mul_right s h in
    omega arith

-- bounds that differ by k, and a part of each
year_near : (lo hi k s w : ℕ) → s ≤ w → hi ≤ lo + k → hi * s ≤ lo * s + k * w
year_near lo hi k s w part near =
    let h = mul-le-mul_right s near in
    let g = mul-le-mul_left k part in
    omega arith

pub alive_above : (rates : ℕ → ℕ) (j : ℕ) → alive_by down rates j * ONE ^ j ≤ UNIT * alive rates j
unfolding alive alive_by
alive_above rates zero = omega arith
alive_above rates (suc j) = rw (pow-succ' ONE j)
    (year_above UNIT ONE (ONE ^ j) (alive rates j) (ONE - rates j) (alive_by down rates j) (down (alive_by down rates j * (ONE - rates j)) ONE)
    (down-le (alive_by down rates j * (ONE - rates j)) ONE) (alive_above rates j))

pub alive_below : (rates : ℕ → ℕ) (j : ℕ) → UNIT * alive rates j ≤ alive_by up rates j * ONE ^ j
unfolding alive alive_by
alive_below rates zero = omega arith
alive_below rates (suc j) = rw (pow-succ' ONE j)
    (year_below UNIT ONE (ONE ^ j) (alive rates j) (ONE - rates j) (alive_by up rates j) (up (alive_by up rates j * (ONE - rates j)) ONE)
    (le-up (alive_by up rates j * (ONE - rates j)) ONE one_pos) (alive_below rates j))

pub alive_near : (rates : ℕ → ℕ) (j : ℕ) → alive_by up rates j ≤ alive_by down rates j + j
unfolding alive_by
alive_near rates zero = omega arith
alive_near rates (suc j) =
    let part : ONE - rates j ≤ ONE = omega arith in
    let near = year_near (alive_by down rates j) (alive_by up rates j) j (ONE - rates j) ONE part (alive_near rates j) in
    let h = apart (alive_by up rates j * (ONE - rates j)) (alive_by down rates j * (ONE - rates j)) ONE j one_pos near in
    omega (arith, h)

-- a part of what is at most a unit is so
part_most : (a s : ℕ) → a ≤ UNIT → s ≤ ONE → a * s ≤ UNIT * ONE
part_most a s most part = le_trans (mul-le-mul_right s most) (mul-le-mul_left UNIT part)

pub alive_hi_most : (rates : ℕ → ℕ) (j : ℕ) → alive_by up rates j ≤ UNIT
unfolding alive_by
alive_hi_most rates zero = omega arith
alive_hi_most rates (suc j) =
    let part : ONE - rates j ≤ ONE = omega arith in
    up-le (alive_by up rates j * (ONE - rates j)) ONE UNIT one_pos (part_most (alive_by up rates j) (ONE - rates j) (alive_hi_most rates j) part)

down_most : (n d k : ℕ) → 0 < d → n ≤ k * d → down n d ≤ k
down_most n d k positive most = le_of_mul-le-mul_right (le_trans (down-le n d) most) positive

pub alive_lo_most : (rates : ℕ → ℕ) (j : ℕ) → alive_by down rates j ≤ UNIT
unfolding alive_by
alive_lo_most rates zero = omega arith
alive_lo_most rates (suc j) =
    let part : ONE - rates j ≤ ONE = omega arith in
    down_most (alive_by down rates j * (ONE - rates j)) ONE UNIT one_pos (part_most (alive_by down rates j) (ONE - rates j) (alive_lo_most rates j) part)

pub dying_above : (rates : ℕ → ℕ) (j : ℕ) → dying_by down rates j * ONE ^ (j + 1) ≤ UNIT * dying rates j
dying_above rates j = rw (add-one j, pow-succ' ONE j)
    (year_above UNIT ONE (ONE ^ j) (alive rates j) (rates j) (alive_by down rates j) (dying_by down rates j)
    (down-le (alive_by down rates j * rates j) ONE) (alive_above rates j))

pub dying_below : (rates : ℕ → ℕ) (j : ℕ) → UNIT * dying rates j ≤ dying_by up rates j * ONE ^ (j + 1)
dying_below rates j = rw (add-one j, pow-succ' ONE j)
    (year_below UNIT ONE (ONE ^ j) (alive rates j) (rates j) (alive_by up rates j) (dying_by up rates j)
    (le-up (alive_by up rates j * rates j) ONE one_pos) (alive_below rates j))

pub dying_near : (rates : ℕ → ℕ) (j : ℕ) → rates j ≤ ONE → dying_by up rates j ≤ dying_by down rates j + (j + 1)
dying_near rates j part =
    let near = year_near (alive_by down rates j) (alive_by up rates j) j (rates j) ONE part (alive_near rates j) in
    let h = apart (alive_by up rates j * rates j) (alive_by down rates j * rates j) ONE j one_pos near in
    omega (arith, h)

pub dying_hi_most : (rates : ℕ → ℕ) (j : ℕ) → rates j ≤ ONE → dying_by up rates j ≤ UNIT
dying_hi_most rates j part =
    up-le (alive_by up rates j * rates j) ONE UNIT one_pos (part_most (alive_by up rates j) (rates j) (alive_hi_most rates j) part)

pub dying_lo_most : (rates : ℕ → ℕ) (j : ℕ) → rates j ≤ ONE → dying_by down rates j ≤ UNIT
dying_lo_most rates j part =
    down_most (alive_by down rates j * rates j) ONE UNIT one_pos (part_most (alive_by down rates j) (rates j) (alive_lo_most rates j) part)
