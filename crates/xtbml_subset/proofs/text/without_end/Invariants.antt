use Rattle.xtbml_subset.proofs.Names.{◌≡◌, ◌≤◌, length, without_end}
use Rattle.xtbml_subset.proofs.text.without_end.Given as goal

abbrev pub invariant-loop-rest : goal.invariant-loop-rest
invariant-loop-rest l = record {
  same : without_end l.rest ≡ without_end l.bytes;
  shorter : length l.rest ≤ length l.bytes;
}

abbrev pub decreases-loop-rest : goal.decreases-loop-rest
decreases-loop-rest l = length l.rest
