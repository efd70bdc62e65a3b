use Rattle.std.proofs.Common.{arith, ◌∙◌}
use Rattle.crvm_reserve.proofs.MeanEnclosed.{mean-encloses, half-most, pair_is, mean_before}
use Rattle.crvm_reserve.proofs.mean.mean_by.Goals as goal

pub returns-clause-rounded : goal.returns-clause-rounded
returns-clause-rounded c = λ cover cap t are.
    let halves = mean_before cover cap c.args.amount t _ _ are.before (c.double_mean.ensures.lo cover cap t are) (c.double_mean.ensures.hi cover cap t are) in
    let lo = c.half_of.ensures.lo ∙ halves.0 in
    let hi = c.half_of.ensures.hi ∙ halves.1 in
    pair_is _ _ _ lo hi

pub returns-clause-exact : goal.returns-clause-exact
returns-clause-exact c = λ cover cap t are.
    let halves = mean_before cover cap c.args.amount t _ _ are.before (c.double_mean.ensures.lo cover cap t are) (c.double_mean.ensures.hi cover cap t are) in
    let lo = c.half_of.ensures.lo ∙ halves.0 in
    let hi = c.half_of.ensures.hi ∙ halves.1 in
    rw (lo, hi) (mean-encloses cover cap c.args.amount t are.reserved (omega (arith, are.before)) c.requires.amount)

pub returns-clause-most : goal.returns-clause-most
returns-clause-most c = rw c.half_of.ensures.hi (half-most c.args.amount _ 2 (omega (arith, c.double_mean.ensures.small_hi)))
