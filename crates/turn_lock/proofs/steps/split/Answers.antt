use Rattle.std.proofs.Common.{rules}
use Rattle.turn_lock.proofs.Dividing.{splits}
use Rattle.turn_lock.proofs.steps.split.Goals as goal

pub split_seat-requires : goal.split_seat-requires
split_seat-requires g c = (search rules, search rules, splits g.T.Stands.opening g.T.Stands.legal g.T.Stands.stands _ _ _ (search rules) (search rules) (search rules))
