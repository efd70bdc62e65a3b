use Rattle.lane_runner.proofs.Names.{◌≤◌, [], ◌∷◌, ◌++◌, length, sym, ap, ◌∙◌, subst, append_assoc, length-append, arith, rules, into_iter_items, HasEntered, shares_to_enter, turns_to_enter}
use Rattle.lane_runner.proofs.SeatSteps.{entered_more, left_next, room_next, shares_next}
use Rattle.lane_runner.proofs.running.enter_all.Goals as goal

pub enter-given-requires-clause-room : goal.enter-given-requires-clause-room
enter-given-requires-clause-room g c = room_next (length (into_iter_items c.next.new.self)) c.loop-outlet.pass.left c.loop-outlet.pass.shares
    (subst (λ outlets. turns_to_enter (length outlets) ≤ c.loop-outlet.pass.left) c.in-Some.ensures.steps.0 c.loop-outlet.invariant.left)
    (subst (λ outlets. shares_to_enter (length outlets) ≤ c.loop-outlet.pass.shares) c.in-Some.ensures.steps.0 c.loop-outlet.invariant.shares)

pub loop-outlet-preserved : goal.loop-outlet-preserved
loop-outlet-preserved g c =
    let enough = subst (λ outlets. turns_to_enter (length outlets) ≤ c.loop-outlet.pass.left) c.in-Some.ensures.steps.0 c.loop-outlet.invariant.left in
    record {
      can_next = search rules;
      finite = search rules;
      rest =
          c.loop-outlet.invariant.rest ∙ ap (λ back. c.loop-outlet.yielded ++ back) c.in-Some.ensures.steps.0
          ∙ sym (append_assoc c.loop-outlet.yielded (c.in-Some.outlet ∷ []) (into_iter_items c.next.new.self));
      rest_len =
          let long = ap length c.in-Some.ensures.steps.0 in
          omega (arith, c.loop-outlet.invariant.rest_len, c.in-Some.ensures.steps.1, long);
      each_len = omega (arith, c.push_reserved.ensures.len, c.loop-outlet.invariant.each_len, length-append c.loop-outlet.yielded (c.in-Some.outlet ∷ []));
      enough = c.push_reserved.ensures.capacity ∙ c.loop-outlet.invariant.enough;
      entered = subst (HasEntered c.args.pass.now c.enter-given.new.pass (c.loop-outlet.yielded ++ c.in-Some.outlet ∷ [])) (sym c.push_reserved.ensures.items)
          (entered_more c.loop-outlet.pass c.enter-given.new.pass c.enter-given.result (length (into_iter_items c.next.new.self)) enough
          c.enter-given.ensures.enters c.args.pass.now c.loop-outlet.yielded c.loop-outlet.seats.items c.in-Some.outlet c.loop-outlet.invariant.entered
          c.enter-given.ensures.facts);
      left = left_next c.loop-outlet.pass c.enter-given.new.pass c.enter-given.result (length (into_iter_items c.next.new.self)) enough c.enter-given.ensures.enters;
      shares = shares_next c.loop-outlet.pass c.enter-given.new.pass c.enter-given.result (length (into_iter_items c.next.new.self))
          (subst (λ outlets. shares_to_enter (length outlets) ≤ c.loop-outlet.pass.shares) c.in-Some.ensures.steps.0 c.loop-outlet.invariant.shares)
          c.enter-given.ensures.enters;
    }
