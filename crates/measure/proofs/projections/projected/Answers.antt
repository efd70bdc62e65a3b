-- The tally of so few policies has room.
use Rattle.cash_projection.proofs.Tallying.{tally_sized}
use Rattle.measure.proofs.projections.projected.Goals as goal

pub cash-requires : goal.cash-requires
cash-requires c = (tally_sized _ _ c.args.years c.args.policies.now _ c.tally_policies-tally.ensures.tally c.requires.years c.requires.few).0
