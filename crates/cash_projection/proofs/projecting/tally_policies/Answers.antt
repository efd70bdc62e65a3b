use Rattle.cash_projection.proofs.Tallying.{one_more_tallied, room_for_one}
use Rattle.cash_projection.proofs.projecting.tally_policies.Goals as goal

pub add-requires-clause-room : goal.add-requires-clause-room
add-requires-clause-room c =
    room_for_one _ _ c.args.years c.args.policies.now c.loop-policy.policy-index c.loop-policy.tally c.loop-policy.invariant.tally
    c.requires.years c.requires.few c.loop-policy-test.true

pub loop-policy-preserved : goal.loop-policy-preserved
loop-policy-preserved c = record {
  tally = one_more_tallied _ _ c.args.years c.args.policies.now c.loop-policy.policy-index _ c.loop-policy.tally c.add.new.self c.loop-policy-test.true
      c.loop-policy.invariant.tally c.add.ensures.taken;
  right = c.add.ensures.right;
}
