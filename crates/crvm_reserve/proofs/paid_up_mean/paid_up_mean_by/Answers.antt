use Rattle.std.proofs.Common.{arith, ◌∙◌, ◌+◌}
use Rattle.crvm_reserve.proofs.MeanValues.{benefits_are, small_benefits}
use Rattle.crvm_reserve.proofs.MeanEnclosed.{half-most, pair_is, paid_up_mean-encloses, paid_up_mean_before}
use Rattle.crvm_reserve.proofs.paid_up_mean.paid_up_mean_by.Goals as goal

pub overflow_add-start : goal.overflow_add-start
overflow_add-start c =
    let made = c.requires.made in
    omega (arith, (small_benefits made.cover made.year c.args.start.now c.args.end.now made.are).lo)

pub overflow_add-start-2 : goal.overflow_add-start-2
overflow_add-start-2 c =
    let made = c.requires.made in
    omega (arith, (small_benefits made.cover made.year c.args.start.now c.args.end.now made.are).hi)

pub half_of-requires-clause-lo : goal.half_of-requires-clause-lo
half_of-requires-clause-lo c =
    let made = c.requires.made in
    omega (arith, (small_benefits made.cover made.year c.args.start.now c.args.end.now made.are).lo)

pub half_of-requires-clause-hi : goal.half_of-requires-clause-hi
half_of-requires-clause-hi c =
    let made = c.requires.made in
    omega (arith, (small_benefits made.cover made.year c.args.start.now c.args.end.now made.are).hi)

pub returns-clause-rounded : goal.returns-clause-rounded
returns-clause-rounded c = λ cover t are.
    let same = benefits_are cover t c.args.start.now c.args.end.now are in
    let halves = paid_up_mean_before cover c.args.amount t _ _ are.before same.0 same.1 in
    let lo = c.half_of.ensures.lo ∙ halves.0 in
    let hi = c.half_of.ensures.hi ∙ halves.1 in
    pair_is _ _ _ lo hi

pub returns-clause-exact : goal.returns-clause-exact
returns-clause-exact c = λ cover t are.
    let same = benefits_are cover t c.args.start.now c.args.end.now are in
    let halves = paid_up_mean_before cover c.args.amount t _ _ are.before same.0 same.1 in
    let lo = c.half_of.ensures.lo ∙ halves.0 in
    let hi = c.half_of.ensures.hi ∙ halves.1 in
    rw (lo, hi) (paid_up_mean-encloses cover c.args.amount t are.years (omega (arith, are.before)) c.requires.amount)

pub returns-clause-most : goal.returns-clause-most
returns-clause-most c =
    let made = c.requires.made in
    let small = small_benefits made.cover made.year c.args.start.now c.args.end.now made.are in
    let most = half-most c.args.amount (c.args.start.now.ben.hi + c.args.end.now.ben.hi) 1 (omega (arith, small.hi)) in
    rw c.half_of.ensures.hi (omega (arith, most))
