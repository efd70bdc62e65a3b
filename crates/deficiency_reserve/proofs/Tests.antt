-- What a test by the bounds of a net premium says of it.
use Rattle.deficiency_reserve.proofs.Names.{ℕ, ◌+◌, ◌*◌, ◌<◌, ◌≤◌, arith, Fraction, Between}
use Rattle.std.proofs.Math.Nat.{mul-le-mul_left, mul-le-mul_right, le_of_mul-le-mul_right, lt_of_mul-lt-mul_right}
use Rattle.present_value.specs.Rounding.{UNIT}

pub is_short : (lo hi amount premium : ℕ) (net : Fraction) → Between lo hi UNIT net → premium * UNIT + 1 ≤ amount * lo
    → premium * net.den < amount * net.num
is_short lo hi amount premium net p test =
    let test' = mul-le-mul_right net.den test in
    let p' = mul-le-mul_left amount p.above in
    let spread : (premium * net.den) * UNIT < (amount * net.num) * UNIT = omega (arith, p.proper) in
    lt_of_mul-lt-mul_right UNIT spread

pub is_enough : (lo hi amount premium : ℕ) (net : Fraction) → Between lo hi UNIT net → amount * hi ≤ premium * UNIT
    → amount * net.num ≤ premium * net.den
is_enough lo hi amount premium net p test =
    let test' = mul-le-mul_right net.den test in
    let p' = mul-le-mul_left amount p.below in
    let spread : (amount * net.num) * UNIT ≤ (premium * net.den) * UNIT = omega arith in
    le_of_mul-le-mul_right spread (omega arith)

pub is_close : (lo hi amount premium : ℕ) (net : Fraction) → amount ≤ 10000000000 → Between lo hi UNIT net → hi ≤ lo + 100000
    → amount * lo ≤ premium * UNIT → premium * UNIT ≤ amount * hi → (premium * net.den < amount * net.num + net.den) × (amount * net.num < premium * net.den + net.den)
is_close lo hi amount premium net few p narrow least most =
    let near = mul-le-mul_left amount narrow in
    let least' = mul-le-mul_right net.den least in
    let most' = mul-le-mul_right net.den most in
    let near' = mul-le-mul_right net.den near in
    let few' = mul-le-mul_right net.den few in
    let above = mul-le-mul_left amount p.above in
    let below = mul-le-mul_left amount p.below in
    let under : (premium * net.den) * UNIT < (amount * net.num + net.den) * UNIT = omega (arith, p.proper) in
    let over : (amount * net.num) * UNIT < (premium * net.den + net.den) * UNIT = omega (arith, p.proper) in
    (lt_of_mul-lt-mul_right UNIT under, lt_of_mul-lt-mul_right UNIT over)
