use Rattle.std.proofs.Common.{◌∙◌, sym, get_or, arith}
use Rattle.std.proofs.lemmas.Int.Digits.{digits_value_more, digits_more}
use Rattle.basis_book.proofs.Digits.{no_digit, digit_is, small_so_far}
use Rattle.basis_book.proofs.points.short_number.Goals as goal

pub returns-then-not-is_ascii_digit-clause-none : goal.returns-then-not-is_ascii_digit-clause-none
returns-then-not-is_ascii_digit-clause-none c = λ all.
    no_digit c.args.text.now c.loop-byte.byte-index all c.loop-byte-test.true (sym c.is_ascii_digit.ensures.value ∙ c.if-not-is_ascii_digit.true)

pub overflow_mul-number : goal.overflow_mul-number
overflow_mul-number c =
    omega (arith, small_so_far c.args.text.now c.loop-byte.byte-index c.loop-byte.number c.requires c.loop-byte-test.true c.loop-byte.invariant.0 c.loop-byte.invariant.1)

pub overflow_add-number : goal.overflow_add-number
overflow_add-number c =
    let digit = digit_is (get_or c.args.text.now c.loop-byte.byte-index 0) c.from.result (sym c.is_ascii_digit.ensures.value ∙ c.if-not-is_ascii_digit.false) c.from.ensures in
    let small = small_so_far c.args.text.now c.loop-byte.byte-index c.loop-byte.number c.requires c.loop-byte-test.true c.loop-byte.invariant.0 c.loop-byte.invariant.1 in
    omega (arith, digit.1, small)

pub loop-byte-preserved : goal.loop-byte-preserved
loop-byte-preserved c =
    let i = c.loop-byte.byte-index in
    let text = c.args.text.now in
    let digit = digit_is (get_or text i 0) c.from.result (sym c.is_ascii_digit.ensures.value ∙ c.if-not-is_ascii_digit.false) c.from.ensures in
    (digits_more 10 text i c.loop-byte-test.true c.loop-byte.invariant.0 (omega (arith, digit.0, digit.1)), omega (arith, digits_value_more 10 text i c.loop-byte-test.true, digit.0, c.loop-byte.invariant.1))
