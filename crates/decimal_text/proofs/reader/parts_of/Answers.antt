use Rattle.decimal_text.proofs.Names.{◌+◌, ◌<◌, ap, arith, length, nat_tests}
use Rattle.decimal_text.proofs.Readings.{reads_parts, spells_parts}
use Rattle.decimal_text.proofs.reader.parts_of.Goals as goal
use Rattle.decimal_text.proofs.reader.parts_of.Goals.{else-is_empty-via-then-is_empty+else-is_empty-2, else-is_empty-via-else-is_empty}

pub returns-then-is_empty-2-clause-none : goal.returns-then-is_empty-2-clause-none
returns-then-is_empty-2-clause-none c = λ d h.
    let reads = reads_parts c.args.text.now _ _ _ _ d c.split_digits.ensures c.split_fraction.ensures h in
    let wide = ap length reads.whole_is in
    let deep = ap length reads.fraction_is in
    let some = h.some_digit in
    grind (arith, nat_tests)

pub returns-in_default-clause-none : goal.returns-in_default-clause-none
returns-in_default-clause-none c = λ d h.
    let reads = reads_parts c.args.text.now _ _ _ _ d c.split_digits.ensures c.split_fraction.ensures h in
    c.in_default.ensures.none d.raised d.lowered reads.exponent_is

pub returns-clause-found : goal.returns-clause-found
returns-clause-found c =
    let some : 0 < length c.split_digits.result.0.now + length c.split_fraction.result.0.now = elim c.else-is_empty.branch [
      | else-is_empty-via-then-is_empty+else-is_empty-2 w ↦ grind (arith, nat_tests)
      | else-is_empty-via-else-is_empty w ↦ grind (arith, nat_tests)
    ] in
    spells_parts c.args.text.now _ _ _ _ _ _ c.split_digits.ensures c.split_fraction.ensures c.in-Some.ensures.found some
