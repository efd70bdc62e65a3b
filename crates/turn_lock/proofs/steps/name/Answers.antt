use Rattle.std.proofs.Common.{rules}
use Rattle.turn_lock.proofs.Stepping.{names}
use Rattle.turn_lock.proofs.steps.name.Goals as goal

pub fetch_add-requires : goal.fetch_add-requires
fetch_add-requires g c = (search rules, search rules, names g.T.Stands.opening g.T.Stands.legal g.T.Stands.stands _ _ _ _ (search rules))
