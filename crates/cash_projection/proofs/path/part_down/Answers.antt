use Rattle.std.proofs.Common.{arith}
use Rattle.cash_projection.proofs.PathSteps.{part_apart}
use Rattle.cash_projection.proofs.path.part_down.Goals as goal

pub returns : goal.returns
returns c = omega (arith, part_apart c.args.whole c.args.part)
