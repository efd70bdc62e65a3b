use Rattle.std.proofs.Common.{sym, refl, arith}
use Rattle.std.proofs.lemmas.Bool.{false≢true}
use Rattle.money_core.proofs.Numerals.{Writes, writes_from_decimal, decimal_from_writes}
use Rattle.money_core.proofs.number.parse_number.Goals as goal

pub returns-in_err-number-clause-none : goal.returns-in_err-number-clause-none
returns-in_err-number-clause-none c = rw c.from_residual.ensures (λ n small e.
    let w = writes_from_decimal n c.args.text.now (omega arith) e in
    absurd (omega (arith, c.in_err-number.ensures.none w.digits)))

pub returns-else-number-most-clause-none : goal.returns-else-number-most-clause-none
returns-else-number-most-clause-none c = λ n small e.
    let w = writes_from_decimal n c.args.text.now (omega arith) e in
    absurd (omega (arith, c.in_ok-number.ensures.value.1))

pub returns-then-not-begins_as_number-clause-none : goal.returns-then-not-begins_as_number-clause-none
returns-then-not-begins_as_number-clause-none c = λ n small e.
    let w = writes_from_decimal n c.args.text.now (omega arith) e in
    absurd (false≢true (c.if-not-begins_as_number.ensures.1 (w.some, w.short)))

pub returns-then-number-most-clause-number : goal.returns-then-number-most-clause-number
returns-then-number-most-clause-number c =
    let begins = c.if-not-begins_as_number.ensures.0 refl in
    let value = c.in_ok-number.ensures.value in
    let w : Writes c.in_ok-number.number c.args.text.now = record {
      digits = value.0;
      some = begins.0;
      short = begins.1;
      value = sym value.1;
    } in
    (c.if-number-most.true, decimal_from_writes _ _ (omega arith) w)
