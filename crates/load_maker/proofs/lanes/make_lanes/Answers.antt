use Rattle.load_maker.proofs.Names.{arith, sym, subst, AreDealt}
use Rattle.load_maker.proofs.Facts.{lanes_dealt, all_lanes}
use Rattle.load_maker.proofs.lanes.make_lanes.Goals as goal

pub returns-clause-lanes : goal.returns-clause-lanes
returns-clause-lanes c =
    all_lanes c.args.seed c.args.lanes c.args.count c.loop-before.before c.loop-before.dealt.items c.new.result
    (let past = c.loop-before-test.false in let within = c.loop-before.auto.before-end in omega (arith, past, within))
    c.loop-before.invariant c.new.ensures

pub returns-clause-dealt : goal.returns-clause-dealt
returns-clause-dealt c =
    let same = all_lanes c.args.seed c.args.lanes c.args.count c.loop-before.before c.loop-before.dealt.items c.new.result
    (let past = c.loop-before-test.false in let within = c.loop-before.auto.before-end in omega (arith, past, within))
    c.loop-before.invariant c.new.ensures in
    subst (AreDealt c.args.lanes c.args.count) (sym same)
    (lanes_dealt c.args.seed c.args.lanes c.args.count c.requires.lanes.0 c.requires.count.1)
