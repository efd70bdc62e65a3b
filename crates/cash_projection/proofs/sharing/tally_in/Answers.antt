use denote.Param.Send.{sendable}
use Rattle.std.proofs.Crossing.{crosses}
use Rattle.cash_projection.proofs.Crossing.{projector_crosses}
use Rattle.cash_projection.proofs.Portioning.{all_added, all_take}
use Rattle.cash_projection.proofs.sharing.tally_in.Goals as goal

pub map_onto-requires-clause-taken : goal.map_onto-requires-clause-taken
map_onto-requires-clause-taken g c κs within =
    all_take c.requires.each.0 c.requires.each.1.0 c.args.years c.args.projectors.now c.as_slice.result.now c.requires.each.1.1
    (rw (c.as_slice.ensures.value, c.in_ok-portions.ensures) c.requires.sound) (rw (c.as_slice.ensures.value, c.in_ok-portions.ensures) c.requires.few)

pub map_onto-requires-send-P : goal.map_onto-requires-send-P
map_onto-requires-send-P g c κs within = search (projector_crosses, sendable, crosses) depth 20

pub joined-requires-clause-few : goal.joined-requires-clause-few
joined-requires-clause-few g c = record {
  basis = c.requires.each.0;
  on = c.requires.each.1.0;
  portions = c.as_slice.result.now;
  each = rw c.as_slice-2.ensures.value
      (all_added c.requires.each.0 c.requires.each.1.0 c.args.years c.args.projectors.now c.as_slice.result.now _ _ c.requires.each.1.1
      c.in_ok-tallies.ensures.items c.in_ok-map_onto.ensures.values);
  few = rw (c.as_slice.ensures.value, c.in_ok-portions.ensures) c.requires.few;
}

pub returns-clause-tally : goal.returns-clause-tally
returns-clause-tally g c = λ basis on each.
    rw (c.as_slice.ensures.value, c.in_ok-portions.ensures) at
    (c.joined.ensures basis on c.as_slice.result.now
    (rw c.as_slice-2.ensures.value (all_added basis on c.args.years c.args.projectors.now c.as_slice.result.now _ _ each c.in_ok-tallies.ensures.items c.in_ok-map_onto.ensures.values)))
