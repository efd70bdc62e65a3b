-- A division by 10^16 is two by 10^8.
use Rattle.crvm_reserve.proofs.Names.{◌≡◌, ℕ, ◌+◌, ◌*◌, ◌/◌, ◌%◌, arith, ap, ◌∙◌, UNIT, down, up}

-- the amount times the units by the upper and the lower half of their digits
parts : (amount units : ℕ) → amount * units ≡ amount * (units / 100000000) * 100000000 + amount * (units % 100000000)
parts amount units =
    let whole : units ≡ units / 100000000 * 100000000 + units % 100000000 = omega arith in
    ap (λ n. amount * n) whole ∙ omega arith

pub down_twice : (amount units : ℕ)
    → (amount * (units / 100000000) + amount * (units % 100000000) / 100000000) / 100000000 ≡ down (amount * units) UNIT
down_twice amount units = omega (arith, parts amount units)

pub up_twice : (amount units : ℕ)
    → (amount * (units / 100000000) + (amount * (units % 100000000) + 99999999) / 100000000 + 99999999) / 100000000 ≡ up (amount * units) UNIT
up_twice amount units = omega (arith, parts amount units)
