use Rattle.xtbml_subset.proofs.Names.{◌≡◌, ℕ, ◌+◌, ◌<◌, false, [], length, get_or, leaves_gap}
use Rattle.xtbml_subset.proofs.ultimate.first_gap.Given as goal

abbrev pub invariant-loop-index : goal.invariant-loop-index
invariant-loop-index l = (k : ℕ) → k < l.index → leaves_gap l.ultimate (l.first_age + k + length (get_or l.rows k [])) ≡ false
