-- The least of the count and the positions so far.
use Rattle.office_state.proofs.Names.{◌≡◌, map, min, take, fold, Held}
use Rattle.office_state.proofs.trimming.least_position.Given as goal

abbrev pub invariant-loop-held : goal.invariant-loop-held
invariant-loop-held l = record {
  least : l.least ≡ fold min l.count (map (λ (held : Held). held.position) (take l.held-index l.held-items));
}
