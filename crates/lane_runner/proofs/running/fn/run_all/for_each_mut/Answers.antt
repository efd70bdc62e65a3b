use Rattle.lane_runner.proofs.Names.{◌≡◌, Some, sym, ap, ◌∙◌, subst, HasRunIn}
use Rattle.std.specs.Prelude.{slice_get}
use Rattle.std.proofs.lemmas.Option.{slice_get-get_or}
use Rattle.lane_runner.proofs.SeatSteps.{one_some}
use Rattle.lane_runner.proofs.running.fn.run_all.for_each_mut.Goals as goal

pub answer_lane-requires-clause-right : goal.answer_lane-requires-clause-right
answer_lane-requires-clause-right g c κs within =
    let at : slice_get c.captures.lanes.now c.args.index ≡ Some c.index-lanes-index.result =
    slice_get-get_or c.captures.lanes.now c.args.index c.index-lanes-index.result c.requires.ready.0 ∙ ap Some (sym c.index-lanes-index.is) in
    (c.requires.ready.1 c.index-lanes-index.result at).right

pub answer_lane-requires-clause-ours : goal.answer_lane-requires-clause-ours
answer_lane-requires-clause-ours g c κs within =
    let at : slice_get c.captures.lanes.now c.args.index ≡ Some c.index-lanes-index.result =
    slice_get-get_or c.captures.lanes.now c.args.index c.index-lanes-index.result c.requires.ready.0 ∙ ap Some (sym c.index-lanes-index.is) in
    (c.requires.ready.1 c.index-lanes-index.result at).ours

pub answer_lane-requires-clause-left : goal.answer_lane-requires-clause-left
answer_lane-requires-clause-left g c κs within =
    let at : slice_get c.captures.lanes.now c.args.index ≡ Some c.index-lanes-index.result =
    slice_get-get_or c.captures.lanes.now c.args.index c.index-lanes-index.result c.requires.ready.0 ∙ ap Some (sym c.index-lanes-index.is) in
    (c.requires.ready.1 c.index-lanes-index.result at).left

pub answer_lane-requires-clause-room : goal.answer_lane-requires-clause-room
answer_lane-requires-clause-room g c κs within =
    let at : slice_get c.captures.lanes.now c.args.index ≡ Some c.index-lanes-index.result =
    slice_get-get_or c.captures.lanes.now c.args.index c.index-lanes-index.result c.requires.ready.0 ∙ ap Some (sym c.index-lanes-index.is) in
    (c.requires.ready.1 c.index-lanes-index.result at).room

pub answer_lane-requires-clause-facts : goal.answer_lane-requires-clause-facts
answer_lane-requires-clause-facts g c κs within =
    let at : slice_get c.captures.lanes.now c.args.index ≡ Some c.index-lanes-index.result =
    slice_get-get_or c.captures.lanes.now c.args.index c.index-lanes-index.result c.requires.ready.0 ∙ ap Some (sym c.index-lanes-index.is) in
    (c.requires.ready.1 c.index-lanes-index.result at).facts

pub returns : goal.returns
returns g c = λ lane is.
    let at : slice_get c.captures.lanes.now c.args.index ≡ Some c.index-lanes-index.result =
    slice_get-get_or c.captures.lanes.now c.args.index c.index-lanes-index.result c.requires.ready.0 ∙ ap Some (sym c.index-lanes-index.is) in
    subst (λ l. HasRunIn c.captures.basis.now l c.args.seat.now (c.answer_lane.new.pass, c.answer_lane.new.outlet))
    (one_some c.index-lanes-index.result lane (sym at ∙ is))
    (record { answered = c.answer_lane.ensures.answered; facts = c.answer_lane.ensures.facts; ring = c.answer_lane.ensures.ring })
