use Rattle.xtbml_subset.proofs.Names.{◌≡◌, ◌+◌, ◌≤◌, length, Opening, outside, IsPath, path_of, state_of, walk_at, after_mark}
use Rattle.xtbml_subset.proofs.nesting.survey.Given as goal

abbrev pub invariant-loop-token : goal.invariant-loop-token
invariant-loop-token l = record {
  same_end : walk_at (state_of l.nesting) l.rest ≡ walk_at (outside Opening) (after_mark l.bytes);
  within : length l.rest ≤ length l.bytes;
  low : l.path.tally.count + length l.rest ≤ length l.bytes;
  is_path : IsPath l.bytes (length (state_of l.nesting).names) l.rest (path_of l.path);
}

abbrev pub decreases-loop-token : goal.decreases-loop-token
decreases-loop-token l = length l.rest
