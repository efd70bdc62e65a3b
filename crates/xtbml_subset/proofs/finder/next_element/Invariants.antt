use Rattle.xtbml_subset.proofs.Names.{◌≡◌, ◌≤◌, ◌+◌, length, option_copied, elements_at}
use Rattle.xtbml_subset.proofs.finder.next_element.Given as goal

abbrev pub invariant-loop-token : goal.invariant-loop-token
invariant-loop-token l = record {
  same : elements_at l.below (option_copied l.wanted) l.rest ≡ elements_at l.fn.depth (option_copied l.wanted) l.bytes;
  within : length l.rest ≤ length l.bytes;
  low : l.below + length l.rest ≤ 1 + length l.bytes;
}

abbrev pub decreases-loop-token : goal.decreases-loop-token
decreases-loop-token l = length l.rest
