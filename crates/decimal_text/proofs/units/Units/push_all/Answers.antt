use Rattle.decimal_text.proofs.Names.{◌++◌, take, arith, append_assoc, take_more}
use Rattle.decimal_text.proofs.Numbers.{digit_at}
use Rattle.decimal_text.proofs.units.Units.push_all.Goals as goal

pub push-requires : goal.push-requires
push-requires c = digit_at c.args.digits.now c.loop-digit.digit-index c.requires (omega arith)

pub loop-digit-preserved : goal.loop-digit-preserved
loop-digit-preserved c = λ places seen h.
    let i = c.loop-digit.digit-index in
    let digits = c.args.digits.now in
    let next = c.push.ensures places (seen ++ take i digits) (c.loop-digit.invariant places seen h) in
    rw (take_more digits i 0 c.loop-digit-test.true, ← append_assoc) next
