use Rattle.xtbml_subset.proofs.Names.{◌≡◌, length, attributes_at}
use Rattle.xtbml_subset.proofs.attribute.after_attributes.Given as goal

abbrev pub invariant-loop-next : goal.invariant-loop-next
invariant-loop-next l = (attributes_at l.rest).1 ≡ (attributes_at l.bytes).1

abbrev pub decreases-loop-next : goal.decreases-loop-next
decreases-loop-next l = length l.rest
