use Rattle.money_core.proofs.Names.{◌≡◌, ◌+◌, ◌-◌, ◌/◌, arith, rules, to_z-of_z, length-decimal-le}
use Rattle.std.proofs.lemmas.List.{drop-set}
use Rattle.money_core.proofs.CentsTextLemmas.{minus_first}
use Rattle.money_core.proofs.cents.write_at_end.Goals as goal

pub write_digits-start-requires : goal.write_digits-start-requires
write_digits-start-requires c =
    let small = c.unsigned_abs-magnitude.ensures.bound in
    let long = length-decimal-le 17 (c.unsigned_abs-magnitude.result / 100) (omega arith) (omega arith) (omega arith) in
    (omega arith, search rules)

pub overflow_sub-text : goal.overflow_sub-text
overflow_sub-text c =
    let small = c.unsigned_abs-magnitude.ensures.bound in
    omega (arith, length-decimal-le 17 (c.unsigned_abs-magnitude.result / 100) (omega arith) (omega arith) (omega arith))

pub overflow_sub-result : goal.overflow_sub-result
overflow_sub-result c =
    let small = c.unsigned_abs-magnitude.ensures.bound in
    omega (arith, length-decimal-le 17 (c.unsigned_abs-magnitude.result / 100) (omega arith) (omega arith) (omega arith))

pub returns-clause-written : goal.returns-clause-written
returns-clause-written c =
    let w = c.write_digits-start in
    let small = c.unsigned_abs-magnitude.ensures.bound in
    let long = length-decimal-le 17 (c.unsigned_abs-magnitude.result / 100) (omega arith) (omega arith) (omega arith) in
    let next : w.result - 1 + 1 ≡ w.result = omega arith in
    let back = to_z-of_z c.ranges.cents in
    rw (drop-set w.new.buf (w.result - 1) 45 (omega arith), next, w.ensures.written, c.write_hundredths.ensures, c.unsigned_abs-magnitude.ensures.value, back)
    (minus_first c.args.cents (rw back at c.if-cents-ge0.false))
