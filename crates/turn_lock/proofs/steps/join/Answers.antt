use Rattle.std.proofs.Common.{rules}
use Rattle.turn_lock.proofs.Dividing.{joins}
use Rattle.turn_lock.proofs.Stepping.{compares}
use Rattle.turn_lock.proofs.steps.join.Goals as goal

pub join_seat-requires : goal.join_seat-requires
join_seat-requires g c = (search rules, search rules, search rules, search rules, joins g.T.Stands.opening g.T.Stands.legal g.T.Stands.stands _ _ _ _ _ (search rules) (search rules))

pub load-requires : goal.load-requires
load-requires g c = (search rules, search rules, compares g.T.Stands.opening g.T.Stands.legal g.T.Stands.stands _ _ _ _ (search rules))
