use Rattle.lane_runner.proofs.Names.{◌≡◌, ◌≤◌, ◌++◌, length, vec_len, vec_capacity, into_iter_items, into_iter_len, HasEntered, shares_to_enter, turns_to_enter}
use Rattle.lane_runner.proofs.running.enter_all.Given as goal

abbrev pub invariant-loop-outlet : goal.invariant-loop-outlet
invariant-loop-outlet g l = record {
  can_next : (goal.iterator-loop-outlet g).can_next l.outlet-iterator;
  finite : (goal.iterator-loop-outlet g).is_finite l.outlet-iterator;
  rest : l.fn.outlets.items ≡ l.yielded ++ into_iter_items l.outlet-iterator;
  rest_len : length (into_iter_items l.outlet-iterator) ≡ into_iter_len l.outlet-iterator;
  each_len : vec_len l.seats ≡ length l.yielded;
  enough : vec_capacity l.seats ≡ vec_capacity l.fn.seats;
  entered : HasEntered l.fn.pass l.pass l.yielded l.seats.items;
  left : turns_to_enter (length (into_iter_items l.outlet-iterator)) ≤ l.pass.left;
  shares : shares_to_enter (length (into_iter_items l.outlet-iterator)) ≤ l.pass.shares;
}
