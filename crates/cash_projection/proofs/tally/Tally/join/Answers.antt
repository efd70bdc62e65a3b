use Rattle.std.proofs.Common.{refl}
use Rattle.cash_projection.proofs.Tallying.{both_tallied}
use Rattle.cash_projection.proofs.tally.Tally.join.Goals as goal

pub returns : goal.returns
returns c = λ basis on ps qs a b. both_tallied basis on c.args.self.now.years ps qs c.args.self.now c.args.other.now _ a b refl refl refl
    c.join.ensures c.join-2.ensures c.join-3.ensures
