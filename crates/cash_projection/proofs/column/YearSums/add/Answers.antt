use Rattle.std.proofs.Common.{arith}
use Rattle.cash_projection.proofs.Columns.{none_risen, one_more_risen}
use Rattle.cash_projection.proofs.column.YearSums.add.Goals as goal

pub loop-j-init : goal.loop-j-init
loop-j-init c = none_risen c.args.from c.args.cents c.args.pairs.now c.args.self.now.sums c.requires.room.places

pub loop-j-preserved : goal.loop-j-preserved
loop-j-preserved c = one_more_risen c.args.from c.loop-j.j c.args.cents c.args.pairs.now c.args.self.now.sums c.loop-j.self.sums _ c.loop-j.invariant
    (omega arith) (omega arith) (omega arith) (omega arith)
