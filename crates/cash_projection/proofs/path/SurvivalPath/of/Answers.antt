use Rattle.cash_projection.proofs.Names.{refl, arith, le_refl, length-replicate, pair_of, rates_after}
use Rattle.cash_projection.proofs.Survivors.{alive_lo_most, alive_hi_most}
use Rattle.cash_projection.proofs.PathSteps.{none_known, one_more_known}
use Rattle.cash_projection.proofs.path.SurvivalPath.of.Goals as goal

pub loop-j-init : goal.loop-j-init
loop-j-init c = none_known (rates_after c.args.table.now c.args.key.age) 132 _ refl (length-replicate 132 (pair_of 0 0))

pub part_of-requires-clause-lo : goal.part_of-requires-clause-lo
part_of-requires-clause-lo c =
    rw (c.loop-j.invariant.alive c.loop-j.j (le_refl _)) (alive_lo_most (rates_after c.args.table.now c.args.key.age) c.loop-j.j)

pub part_of-requires-clause-hi : goal.part_of-requires-clause-hi
part_of-requires-clause-hi c =
    rw (c.loop-j.invariant.alive c.loop-j.j (le_refl _)) (alive_hi_most (rates_after c.args.table.now c.args.key.age) c.loop-j.j)

pub part_of-requires-in-loop-j-clause-lo : goal.part_of-requires-in-loop-j-clause-lo
part_of-requires-in-loop-j-clause-lo c =
    rw (c.loop-j.invariant.alive c.loop-j.j (le_refl _)) (alive_lo_most (rates_after c.args.table.now c.args.key.age) c.loop-j.j)

pub part_of-requires-in-loop-j-clause-hi : goal.part_of-requires-in-loop-j-clause-hi
part_of-requires-in-loop-j-clause-hi c =
    rw (c.loop-j.invariant.alive c.loop-j.j (le_refl _)) (alive_hi_most (rates_after c.args.table.now c.args.key.age) c.loop-j.j)

pub loop-j-preserved : goal.loop-j-preserved
loop-j-preserved c =
    one_more_known (rates_after c.args.table.now c.args.key.age) c.loop-j.j _ c.loop-j.alive c.loop-j.dying c.part_of.result c.part_of-in-loop-j.result
    c.loop-j.invariant (omega (arith, c.loop-j-test.true, c.rates_from-rates.ensures.ages))
    (c.rates_from-rates.ensures.rates.each c.loop-j.j c.loop-j-test.true)
    c.part_of.ensures.lo c.part_of.ensures.hi c.part_of-in-loop-j.ensures.lo c.part_of-in-loop-j.ensures.hi
