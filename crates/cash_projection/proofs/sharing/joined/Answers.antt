use Rattle.std.proofs.Common.{arith}
use Rattle.cash_projection.proofs.Portioning.{all_joined, can_join, one_more_joined}
use Rattle.cash_projection.proofs.sharing.joined.Goals as goal

pub join-requires-clause-years : goal.join-requires-clause-years
join-requires-clause-years c =
    (can_join c.args.years c.args.tallies.now c.loop-tally.tally-index _ c.loop-tally.all c.requires.years c.requires.few c.loop-tally.invariant c.loop-tally-test.true).years

pub join-requires-clause-few : goal.join-requires-clause-few
join-requires-clause-few c =
    (can_join c.args.years c.args.tallies.now c.loop-tally.tally-index _ c.loop-tally.all c.requires.years c.requires.few c.loop-tally.invariant c.loop-tally-test.true).few

pub join-requires-clause-ours : goal.join-requires-clause-ours
join-requires-clause-ours c =
    (can_join c.args.years c.args.tallies.now c.loop-tally.tally-index c.loop-tally.all c.loop-tally.all c.requires.years c.requires.few c.loop-tally.invariant c.loop-tally-test.true).ours

pub join-requires-clause-theirs : goal.join-requires-clause-theirs
join-requires-clause-theirs c =
    (can_join c.args.years c.args.tallies.now c.loop-tally.tally-index _ c.loop-tally.all c.requires.years c.requires.few c.loop-tally.invariant c.loop-tally-test.true).theirs

pub loop-tally-init : goal.loop-tally-init
loop-tally-init c = λ basis on portions each. c.new-all.ensures basis on

pub loop-tally-preserved : goal.loop-tally-preserved
loop-tally-preserved c =
    one_more_joined c.args.years c.args.tallies.now c.loop-tally.tally-index _ c.loop-tally.all c.join.new.self c.loop-tally.invariant c.loop-tally-test.true
    c.join.ensures

pub returns : goal.returns
returns c = λ basis on portions each.
    all_joined c.args.years c.args.tallies.now c.loop-tally.tally-index c.loop-tally.all c.loop-tally.invariant (omega (arith, c.loop-tally-test.false))
    basis on portions each
