use Rattle.money_core.proofs.Names.{◌≡◌, ℕ, ◌+◌, ◌-◌, ◌*◌, ◌^◌, ◌<◌, ◌≤◌, List, length, get_or, take, arith, AllDigits, digits_value, digit_at, digits_value-take-le}
use Rattle.std.specs.Int.{IsInRange}
use Rattle.std.proofs.lemmas.Int.Digits.{digits_value_more, digits_more}
use Rattle.std.proofs.lemmas.Str.{digit_value_digit}
use Rattle.money_core.proofs.number.value_of_digits.Goals as goal

-- one more digit makes ten times the number, and the digit
more : (ds : List ℕ) (i value : ℕ) → i < length ds → IsInRange 48 57 (get_or ds i 0) → value ≡ digits_value 10 (take i ds)
    → digits_value 10 (take (i + 1) ds) ≡ value * 10 + (get_or ds i 0 - 48)
more ds i value inside digit so_far =
    let worth = digit_value_digit (get_or ds i 0) digit in
    omega (arith, digits_value_more 10 ds i inside)

-- what the first digits write is too large already
too_large : (ds : List ℕ) (i value : ℕ) → i < length ds → value ≡ digits_value 10 (take i ds) → AllDigits 10 ds
    → 2 ^ 64 ≤ value * 10 + (get_or ds i 0 - 48) → 2 ^ 64 ≤ digits_value 10 ds
too_large ds i value inside so_far all large =
    omega (arith, more ds i value inside (digit_at ds i all inside) so_far, digits_value-take-le 10 ds (i + 1) (omega arith))

pub returns-then-not-is_ascii_digit-clause-none : goal.returns-then-not-is_ascii_digit-clause-none
returns-then-not-is_ascii_digit-clause-none c = λ all.
    let digit = digit_at c.args.text.now c.loop-byte.byte-index all c.loop-byte-test.true in
    absurd (omega (arith, digit, c.if-not-is_ascii_digit.ensures.cases))

pub returns-in_err-checked_mul-clause-none : goal.returns-in_err-checked_mul-clause-none
returns-in_err-checked_mul-clause-none c = rw c.from_residual.ensures (λ all.
    let large = c.in_err-checked_mul.ensures in
    too_large c.args.text.now c.loop-byte.byte-index c.loop-byte.value c.loop-byte-test.true c.loop-byte.invariant.value all (omega arith))

pub returns-in_err-value-clause-none : goal.returns-in_err-value-clause-none
returns-in_err-value-clause-none c = rw c.from_residual-in_err-value.ensures (λ all.
    let large = c.in_err-value.ensures in
    let times = c.in_ok-checked_mul.ensures in
    too_large c.args.text.now c.loop-byte.byte-index c.loop-byte.value c.loop-byte-test.true c.loop-byte.invariant.value all (omega arith))

pub loop-byte-preserved : goal.loop-byte-preserved
loop-byte-preserved c =
    let text = c.args.text.now in
    let i = c.loop-byte.byte-index in
    let inside = c.loop-byte-test.true in
    let is = c.if-not-is_ascii_digit.ensures in
    let times = c.in_ok-checked_mul.ensures in
    let sum = c.in_ok-value.ensures in
    record {
      digits = digits_more 10 text i inside c.loop-byte.invariant.digits is.bound;
      value = omega (arith, more text i c.loop-byte.value inside is.cases c.loop-byte.invariant.value);
    }
