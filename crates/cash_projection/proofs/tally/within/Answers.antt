use Rattle.cash_projection.proofs.Dues.{due_within}
use Rattle.cash_projection.proofs.tally.within.Goals as goal

pub returns-clause-same : goal.returns-clause-same
returns-clause-same c = λ cents j below. due_within c.args.from c.args.to c.args.years c.min.result c.min-to.result cents j c.min-to.ensures c.min.ensures below
