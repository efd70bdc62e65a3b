use Rattle.std.proofs.Common.{arith}
use Rattle.cash_projection.proofs.Tallying.{all_told, cash_told, one_more_told, year_is}
use Rattle.cash_projection.proofs.tally.Tally.cash.Goals as goal

pub loop-j-preserved : goal.loop-j-preserved
loop-j-preserved c =
    let tally = c.args.self.now in
    let told = one_more_told tally c.loop-j.years.items _ c.loop-j.j _ c.loop-j.invariant.many c.loop-j.invariant.each
    (year_is tally c.loop-j.j _ c.pair-premium.ensures c.pair-death.ensures c.pair-maturity.ensures) c.push_reserved.ensures.items in
    record { many = told.0; room = omega (arith, c.loop-j.invariant.room, c.push_reserved.ensures.capacity); each = told.1 }

pub returns : goal.returns
returns c = λ basis on policies is.
    let told = all_told c.args.self.now c.loop-j.years.items _ c.loop-j.j c.new.ensures c.loop-j.invariant.many (omega arith) c.loop-j.invariant.each in
    cash_told basis on policies c.args.self.now c.new.result c.requires.years told.0 told.1 is
