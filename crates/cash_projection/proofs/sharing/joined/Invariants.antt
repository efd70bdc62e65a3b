use Rattle.cash_projection.proofs.Portioning.{AreJoined}
use Rattle.cash_projection.proofs.sharing.joined.Given as goal

abbrev pub invariant-loop-tally : goal.invariant-loop-tally
invariant-loop-tally l = AreJoined l.years l.tallies l.tally-index l.all
