use Rattle.lane_runner.proofs.Names.{◌≡◌, ◌++◌, length, map, vec_len, vec_capacity, AllByRecursion, into_iter_items, into_iter_len, HasLeft}
use Rattle.lane_runner.proofs.running.leave_all.Given as goal

abbrev pub invariant-loop-seat : goal.invariant-loop-seat
invariant-loop-seat g l = record {
  can_next : (goal.iterator-loop-seat g).can_next l.seat-iterator;
  finite : (goal.iterator-loop-seat g).is_finite l.seat-iterator;
  rest : l.fn.seats.items ≡ l.yielded ++ into_iter_items l.seat-iterator;
  rest_len : length (into_iter_items l.seat-iterator) ≡ into_iter_len l.seat-iterator;
  ours : AllByRecursion (λ seat. seat.0.turnstile ≡ l.office) (into_iter_items l.seat-iterator);
  callers : l.callers.items ≡ map (λ seat. seat.0.caller) l.yielded;
  callers_len : vec_len l.callers ≡ length l.yielded;
  callers_enough : vec_capacity l.callers ≡ vec_capacity l.fn.callers;
  left : HasLeft l.fn.pass l.pass l.yielded;
}
