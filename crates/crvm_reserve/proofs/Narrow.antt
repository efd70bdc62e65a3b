-- How far the bounds of a premium and of a reserve may differ.
use Rattle.crvm_reserve.proofs.Names.{ℕ, ◌+◌, ◌*◌, ◌<◌, ◌≤◌, arith, down, up, down-le, lt-down, up-lt, apart, up-le}
use Rattle.std.proofs.Math.Nat.{mul-le-mul_left, mul-le-mul_right, le_of_mul-le-mul_right, lt_of_mul-lt-mul_right}

-- a premium is at most the benefits, if the payments are worth at least 1
pub level_most : (u n d k : ℕ) → 0 < u → u ≤ d → n ≤ k * u → down (n * u) d ≤ k * u
level_most u n d k positive least most =
    let low = down-le (n * u) d in
    let wide = mul-le-mul_left (down (n * u) d) least in
    let spread = mul-le-mul_right u most in
    let bound : down (n * u) d * u ≤ (k * u) * u = omega arith in
    le_of_mul-le-mul_right bound positive

pub level_up_most : (u n d k : ℕ) → 0 < u → u ≤ d → n ≤ k * u → up (n * u) d ≤ k * u
level_up_most u n d k positive least most =
    let wide = mul-le-mul_left (k * u) least in
    let spread = mul-le-mul_right u most in
    up-le (n * u) d (k * u) (omega arith) (omega arith)

-- how far the bounds of a quotient differ, by how far those of its parts do: by e above, and by r below
pub level_narrow : (u nlo nhi dlo dhi e r k : ℕ) → 0 < u → u ≤ dlo → dlo ≤ dhi → dhi ≤ dlo + r → r ≤ u
    → nhi ≤ nlo + e → nlo ≤ k * u → up (nhi * u) dlo ≤ down (nlo * u) dhi + (e + k * r + 2)
level_narrow u nlo nhi dlo dhi e r k positive least order near_below small near_above most =
    let x = down (nlo * u) dhi in
    let y = up (nhi * u) dlo in
    let low = lt-down (nlo * u) dhi (omega arith) in
    let high = up-lt (nhi * u) dlo (omega arith) in
    let x_most = level_most u nlo dhi k positive (omega arith) most in
    -- (x + 1) * dhi is at most (x + 1) * dlo and (k * r + 1) * dlo more
    let spread_below = mul-le-mul_left (x + 1) near_below in
    let x_spread = mul-le-mul_right r x_most in
    let unit_spread = mul-le-mul_left (k * r) least in
    let spread_above = mul-le-mul_right u near_above in
    let error_spread = mul-le-mul_left e least in
    let wide : y * dlo < (x + (e + k * r + 2) + 1) * dlo = omega arith in
    let bound : y < x + (e + k * r + 2) + 1 = lt_of_mul-lt-mul_right dlo wide in
    omega arith

-- the bounds of a product in units
pub product_narrow : (u alo ahi blo bhi w r k m : ℕ) → 0 < u → bhi ≤ blo + w → ahi ≤ alo + r → blo ≤ k * u → alo ≤ m * u → w * r ≤ u
    → up (bhi * ahi) u ≤ down (blo * alo) u + (k * r + m * w + 1) + 1
product_narrow u alo ahi blo bhi w r k m positive near_b near_a most_b most_a small =
    let first = mul-le-mul_right ahi near_b in
    let second = mul-le-mul_left (blo + w) near_a in
    let part_b = mul-le-mul_right r most_b in
    let part_a = mul-le-mul_left w most_a in
    let near : bhi * ahi ≤ blo * alo + (k * r + m * w + 1) * u = omega arith in
    apart (bhi * ahi) (blo * alo) u (k * r + m * w + 1) positive near
