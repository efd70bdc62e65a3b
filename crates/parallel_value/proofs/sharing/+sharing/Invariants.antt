use Rattle.std.proofs.Common.{length, ◌+◌, ◌-◌, ◌*◌}
use Rattle.parallel_value.proofs.sharing.+sharing.Given as goal

abbrev pub decreases-make_both-join_mut+arg2 : goal.decreases-make_both-join_mut+arg2
decreases-make_both-join_mut+arg2 g l = 4 * length l.front.now + 1

abbrev pub decreases-make_both-join_mut+arg3 : goal.decreases-make_both-join_mut+arg3
decreases-make_both-join_mut+arg3 g l = 4 * length l.back.now + 1

abbrev pub decreases-make_both : goal.decreases-make_both
decreases-make_both g l = 4 * (length l.front.now + length l.back.now) - 1

abbrev pub decreases-make_parts : goal.decreases-make_parts
decreases-make_parts g l = 4 * length l.pieces.now
