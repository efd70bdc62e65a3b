use Rattle.xtbml_subset.proofs.Names.{◌≡◌, length, comment_end_at}
use Rattle.xtbml_subset.proofs.token.after_comment.Given as goal

abbrev pub invariant-loop-rest : goal.invariant-loop-rest
invariant-loop-rest l = comment_end_at l.rest ≡ comment_end_at l.bytes

abbrev pub decreases-loop-rest : goal.decreases-loop-rest
decreases-loop-rest l = length l.rest
