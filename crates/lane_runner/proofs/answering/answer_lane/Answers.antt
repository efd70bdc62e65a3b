use Rattle.lane_runner.proofs.Names.{◌+◌, All, List, [], ◌∷◌, ◌++◌, length, take, refl, ap, sym, subst, ◌∙◌, arith, rules, take_all, sent, Line, IsRightLine, HasAnswered}
use Rattle.lane_runner.proofs.AnswerSteps.{answered_next, answered_none, next_left}
use Rattle.lane_runner.proofs.TellSteps.{may_follow}
use Rattle.lane_runner.proofs.answering.answer_lane.Goals as goal

pub loop-line-init : goal.loop-line-init
loop-line-init g c = record {
  ring = ((refl, refl, refl, refl), refl);
  room = omega arith;
  answered = subst (HasAnswered c.args.basis.now c.args.lane.now.number [] c.args.pass.now c.args.pass.now) (sym c.requires.room.none)
      (answered_none c.args.basis.now c.args.lane.now.number c.args.pass.now c.requires.facts);
  facts = c.requires.facts;
}

pub answer_line-told-requires-clause-right : goal.answer_line-told-requires-clause-right
answer_line-told-requires-clause-right g c κs within =
    let right : All IsRightLine c.as_slice-asked.result.now = rw c.as_slice-asked.ensures c.requires.right in
    right c.loop-line.line-index _ c.loop-line-test.true

pub answer_line-told-requires-clause-left : goal.answer_line-told-requires-clause-left
answer_line-told-requires-clause-left g c κs within =
    next_left c.as_slice-asked.result.now c.loop-line.line-index _ c.loop-line.pass.left _ c.args.pass.now.left c.loop-line-test.true
    (rw c.as_slice-asked.ensures c.requires.left) c.loop-line.invariant.answered.grows.left c.loop-line.invariant.answered.few

pub hand_over-requires-clause-room : goal.hand_over-requires-clause-room
hand_over-requires-clause-room g c =
    omega (arith, c.requires.room.enough, ap length c.as_slice-asked.ensures, c.loop-line.invariant.room, c.loop-line-test.true)

pub hand_over-requires-clause-follows : goal.hand_over-requires-clause-follows
hand_over-requires-clause-follows g c =
    may_follow c.args.basis.now c.args.lane.now.number (take (c.loop-line.line-index + 1) c.as_slice-asked.result.now) _ c.args.pass.now c.loop-line.pass
    c.answer_line-told.new.pass (sent c.loop-line.outlet.ring) c.answer_line-told.result c.answer_line-told.ensures.facts
    (answered_next c.args.basis.now c.args.lane.now.number c.as_slice-asked.result.now c.loop-line.line-index _ c.args.pass.now c.loop-line.pass
    c.answer_line-told.new.pass (sent c.loop-line.outlet.ring) (sent c.loop-line.outlet.ring ++ c.answer_line-told.result ∷ [])
    c.answer_line-told.result c.loop-line-test.true refl c.loop-line.invariant.answered c.answer_line-told.ensures.answered)
    c.answer_line-told.ensures.answered (search rules)

pub loop-line-preserved : goal.loop-line-preserved
loop-line-preserved g c = record {
  ring = (
    (
      c.hand_over.ensures.ring.0.0 ∙ c.loop-line.invariant.ring.0.0,
      c.hand_over.ensures.ring.0.1 ∙ c.loop-line.invariant.ring.0.1,
      c.hand_over.ensures.ring.0.2 ∙ c.loop-line.invariant.ring.0.2,
      c.hand_over.ensures.ring.0.3 ∙ c.loop-line.invariant.ring.0.3,
    ),
    c.hand_over.ensures.ring.1 ∙ c.loop-line.invariant.ring.1,
  );
  room = omega (arith, c.hand_over.ensures.room, c.loop-line.invariant.room);
  answered = answered_next c.args.basis.now c.args.lane.now.number c.as_slice-asked.result.now c.loop-line.line-index _ c.args.pass.now c.loop-line.pass
      c.answer_line-told.new.pass (sent c.loop-line.outlet.ring) (sent c.hand_over.new.outlet.ring) c.answer_line-told.result
      c.loop-line-test.true c.hand_over.ensures.sent c.loop-line.invariant.answered c.answer_line-told.ensures.answered;
  facts = c.answer_line-told.ensures.facts;
}

pub returns-clause-answered : goal.returns-clause-answered
returns-clause-answered g c =
    subst (λ (lines : List Line). HasAnswered c.args.basis.now c.args.lane.now.number lines c.args.pass.now c.loop-line.pass (sent c.loop-line.outlet.ring))
    (take_all c.loop-line.line-index c.as_slice-asked.result.now c.loop-line-test.false ∙ c.as_slice-asked.ensures) c.loop-line.invariant.answered
