use Rattle.std.proofs.Common.{length, ◌+◌, ◌-◌, ◌*◌}
use Rattle.parallel_value.proofs.filling.+filling.Given as goal

abbrev pub decreases-fill_both-join_mut+arg2 : goal.decreases-fill_both-join_mut+arg2
decreases-fill_both-join_mut+arg2 g l = 4 * length l.front.now + 1

abbrev pub decreases-fill_both-join_mut+arg3 : goal.decreases-fill_both-join_mut+arg3
decreases-fill_both-join_mut+arg3 g l = 4 * length l.back.now + 1

abbrev pub decreases-fill_both : goal.decreases-fill_both
decreases-fill_both g l = 4 * (length l.front.now + length l.back.now) - 1

abbrev pub decreases-fill_by_all : goal.decreases-fill_by_all
decreases-fill_by_all g l = 4 * length l.pieces.now
