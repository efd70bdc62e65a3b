use Rattle.lane_runner.proofs.Names.{◌≡◌, [], ◌∷◌, ◌++◌, length, sym, ap, ◌∙◌, subst, append_assoc, length-append, arith, rules, AllByRecursion, into_iter_items}
use Rattle.lane_runner.proofs.SeatSteps.{callers_push, left_more}
use Rattle.lane_runner.proofs.running.leave_all.Goals as goal

pub loop-seat-preserved : goal.loop-seat-preserved
loop-seat-preserved g c = record {
  can_next = search rules;
  finite = search rules;
  rest =
      c.loop-seat.invariant.rest ∙ ap (λ back. c.loop-seat.yielded ++ back) c.in-Some.ensures.steps.0
      ∙ sym (append_assoc c.loop-seat.yielded (c.in-Some.seat ∷ []) (into_iter_items c.next.new.self));
  rest_len =
      let long = ap length c.in-Some.ensures.steps.0 in
      omega (arith, c.loop-seat.invariant.rest_len, c.in-Some.ensures.steps.1, long);
  ours = (subst (AllByRecursion (λ seat. seat.0.turnstile ≡ c.args.office.now)) c.in-Some.ensures.steps.0 c.loop-seat.invariant.ours).1;
  callers = c.push_reserved.ensures.items
      ∙ callers_push c.loop-seat.yielded c.in-Some.seat c.loop-seat.callers.items c.caller.result c.loop-seat.invariant.callers c.caller.ensures.number;
  callers_len = omega (arith, c.push_reserved.ensures.len, c.loop-seat.invariant.callers_len, length-append c.loop-seat.yielded (c.in-Some.seat ∷ []));
  callers_enough = c.push_reserved.ensures.capacity ∙ c.loop-seat.invariant.callers_enough;
  left = left_more c.args.pass.now c.loop-seat.pass c.leave.new.pass c.in-Some.seat.0 c.loop-seat.yielded c.in-Some.seat.1 c.loop-seat.invariant.left
      c.leave.ensures.leaves;
}
