use Rattle.cash_projection.proofs.Names.{refl, sym, nothing_ahead}
use Rattle.cash_projection.proofs.Adding.{nothing_idle}
use Rattle.cash_projection.proofs.Taking.{worded_by}
use Rattle.cash_projection.proofs.tally.Tally.add_by.Goals as goal

pub returns-in-Err-clause-taken : goal.returns-in-Err-clause-taken
returns-in-Err-clause-taken c =
    worded_by c.args.policy.now c.args.table.now c.args.on c.in-Err.field-0 _ _ _ (sym c.in-Err.ensures.exact)
    (c.add_nothing.ensures (nothing_ahead 1) (nothing_idle 1) refl)
