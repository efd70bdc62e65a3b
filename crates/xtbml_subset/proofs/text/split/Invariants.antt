use Rattle.xtbml_subset.proofs.Names.{length, ◌-◌, ◌≡◌, ◌≤◌, ◌++◌, take, drop, front, after}
use Rattle.xtbml_subset.proofs.text.split.Given as goal

abbrev pub invariant-loop-count : goal.invariant-loop-count
invariant-loop-count l = record {
  within : l.count ≤ length l.bytes;
  front_is : take l.count l.bytes ++ front l.class (drop l.count l.bytes) ≡ front l.class l.bytes;
  after_is : after l.class (drop l.count l.bytes) ≡ after l.class l.bytes;
}

abbrev pub decreases-loop-count : goal.decreases-loop-count
decreases-loop-count l = length l.bytes - l.count
