use Rattle.xtbml_subset.proofs.Names.{◌≡◌, length, attributes_at, value_of}
use Rattle.xtbml_subset.proofs.attribute.attribute_value.Given as goal

abbrev pub invariant-loop-attribute : goal.invariant-loop-attribute
invariant-loop-attribute l = value_of l.name (attributes_at l.rest).0 ≡ value_of l.name (attributes_at l.bytes).0

abbrev pub decreases-loop-attribute : goal.decreases-loop-attribute
decreases-loop-attribute l = length l.rest
