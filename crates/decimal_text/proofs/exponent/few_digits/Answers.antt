use Rattle.decimal_text.proofs.Names.{◌≡◌, length, ap, arith, nat_tests}
use Rattle.decimal_text.proofs.Cuts.{all_digits}
use Rattle.decimal_text.proofs.exponent.few_digits.Goals as goal
use Rattle.decimal_text.proofs.exponent.few_digits.Goals.{then-is_empty-via-then-is_empty, then-is_empty-via-else-is_empty+then-digits-gt3, then-is_empty-via-else-is_empty+else-digits-gt3+then-not-is_empty}

pub returns-then-is_empty-clause-none : goal.returns-then-is_empty-clause-none
returns-then-is_empty-clause-none c = λ few.
    let cut = all_digits c.args.text.now c.split_digits.result.0.now c.split_digits.result.1.now c.split_digits.ensures few.0.1 in
    let long : length c.split_digits.result.0.now ≡ length c.args.text.now = ap length cut.0 in
    let short : length c.split_digits.result.1.now ≡ 0 = ap length cut.1 in
    elim c.then-is_empty.branch [
      | then-is_empty-via-then-is_empty w ↦ grind (arith, nat_tests)
      | then-is_empty-via-else-is_empty+then-digits-gt3 w ↦ grind (arith, nat_tests)
      | then-is_empty-via-else-is_empty+else-digits-gt3+then-not-is_empty w ↦ grind (arith, nat_tests)
    ]
