-- Those of the pins so far that have another number are kept.
use Rattle.office_state.proofs.Names.{◌≡◌, ◌≤◌, ◌==◌, not, length, take, filter, Held}
use Rattle.office_state.proofs.pins.without.Given as goal

abbrev pub invariant-loop-held : goal.invariant-loop-held
invariant-loop-held l = record {
  others : l.others.items ≡ filter (λ (held : Held). not (l.number == held.number)) (take l.held-index l.held-items);
  few : length l.others.items ≤ l.held-index;
}
