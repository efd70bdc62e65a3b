use Rattle.decimal_text.proofs.Names.{◌≡◌, ◌∙◌, ℕ, ◌<◌, ◌≤◌, ◌^◌, List, length, ap, arith, get_or, take, take_all, AreDigits, number}
use Rattle.std.proofs.Math.Nat.{pow-le-pow_right}
use Rattle.std.proofs.lemmas.Int.Digits.{digits_value-lt, digits_value_more}
use Rattle.std.proofs.lemmas.Str.Parse.{digits_value-take-le}
use Rattle.decimal_text.proofs.Numbers.{digit_at, digit_value_is}
use Rattle.decimal_text.proofs.digits.short_number.Goals as goal

small : (digits : List ℕ) → AreDigits digits → length digits ≤ 3 → number digits < 1000
small digits h short =
    let bound : number digits < 10 ^ length digits = digits_value-lt 10 digits h in
    let few : 10 ^ length digits ≤ 10 ^ 3 = pow-le-pow_right (omega arith) short in
    omega arith

small_so_far : (digits : List ℕ) (i value : ℕ) → AreDigits digits → length digits ≤ 3 → value ≡ number (take i digits) → value < 1000
small_so_far digits i value h short e = omega (arith, e, small digits h short, digits_value-take-le 10 digits i (omega arith))

pub overflow_mul-value : goal.overflow_mul-value
overflow_mul-value c =
    let few = small_so_far c.args.digits.now c.loop-digit.digit-index c.loop-digit.value c.requires.digits c.requires.short c.loop-digit.invariant in
    omega arith

pub overflow_sub-digit : goal.overflow_sub-digit
overflow_sub-digit c = (digit_at c.args.digits.now c.loop-digit.digit-index c.requires.digits c.loop-digit-test.true).0

pub overflow_add-value : goal.overflow_add-value
overflow_add-value c =
    let few = small_so_far c.args.digits.now c.loop-digit.digit-index c.loop-digit.value c.requires.digits c.requires.short c.loop-digit.invariant in
    let digit = digit_at c.args.digits.now c.loop-digit.digit-index c.requires.digits c.loop-digit-test.true in
    omega (arith, digit.0, digit.1)

pub loop-digit-preserved : goal.loop-digit-preserved
loop-digit-preserved c =
    let digit = digit_at c.args.digits.now c.loop-digit.digit-index c.requires.digits c.loop-digit-test.true in
    let more = digits_value_more 10 c.args.digits.now c.loop-digit.digit-index c.loop-digit-test.true in
    let value = digit_value_is (get_or c.args.digits.now c.loop-digit.digit-index 0) digit in
    omega (arith, more, value, c.loop-digit.invariant)

pub returns-clause-value : goal.returns-clause-value
returns-clause-value c =
    let all = take_all c.loop-digit.digit-index c.args.digits.now c.loop-digit-test.false in
    c.loop-digit.invariant ∙ ap number all

pub returns-clause-small : goal.returns-clause-small
returns-clause-small c = small_so_far c.args.digits.now c.loop-digit.digit-index c.loop-digit.value c.requires.digits c.requires.short c.loop-digit.invariant
