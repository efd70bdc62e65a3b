use Rattle.std.proofs.Common.{arith, ◌∙◌}
use Rattle.crvm_reserve.proofs.Enclosed.{excess_lo-most, excess_hi-most, beta-between, beta-narrow}
use Rattle.crvm_reserve.proofs.Tables.{issue_due, beta_lo_is, beta_hi_is, premium_is}
use Rattle.crvm_reserve.proofs.premium.premium_by.Goals as goal

pub overflow_add-charged : goal.overflow_add-charged
overflow_add-charged c =
    let cover = c.requires.cover in
    let cap = c.requires.cap in
    let are = c.requires.are in
    omega (arith, c.excess_premium-excess.ensures.lo cover cap are, excess_lo-most cover cap are.reserved, (issue_due cover cap c.args.parts are).ben_lo)

pub overflow_add-charged-2 : goal.overflow_add-charged-2
overflow_add-charged-2 c =
    let cover = c.requires.cover in
    let cap = c.requires.cap in
    let are = c.requires.are in
    omega (arith, c.excess_premium-excess.ensures.hi cover cap are, excess_hi-most cover cap are.reserved, (issue_due cover cap c.args.parts are).ben_hi)

pub level_premium-level-requires-clause-lo : goal.level_premium-level-requires-clause-lo
level_premium-level-requires-clause-lo c =
    let cover = c.requires.cover in
    let cap = c.requires.cap in
    let are = c.requires.are in
    omega (arith, c.excess_premium-excess.ensures.lo cover cap are, excess_lo-most cover cap are.reserved, (issue_due cover cap c.args.parts are).ben_lo)

pub level_premium-level-requires-clause-hi : goal.level_premium-level-requires-clause-hi
level_premium-level-requires-clause-hi c =
    let cover = c.requires.cover in
    let cap = c.requires.cap in
    let are = c.requires.are in
    omega (arith, c.excess_premium-excess.ensures.hi cover cap are, excess_hi-most cover cap are.reserved, (issue_due cover cap c.args.parts are).ben_hi)

pub level_premium-level-requires-clause-due : goal.level_premium-level-requires-clause-due
level_premium-level-requires-clause-due c = (issue_due c.requires.cover c.requires.cap c.args.parts c.requires.are).lo

pub level_premium-level-requires-clause-due_most : goal.level_premium-level-requires-clause-due_most
level_premium-level-requires-clause-due_most c = (issue_due c.requires.cover c.requires.cap c.args.parts c.requires.are).hi

pub returns-clause-rounded : goal.returns-clause-rounded
returns-clause-rounded c = λ cover cap are.
    let lo = c.level_premium-level.ensures.lo ∙ beta_lo_is cover cap c.args.parts.issue c.excess_premium-excess.result.lo are.issue (c.excess_premium-excess.ensures.lo cover cap are) in
    let hi = c.level_premium-level.ensures.hi ∙ beta_hi_is cover cap c.args.parts.issue c.excess_premium-excess.result.hi are.issue (c.excess_premium-excess.ensures.hi cover cap are) in
    premium_is cover cap _ _ _ _ lo hi (c.excess_premium-excess.ensures.lo cover cap are) (c.excess_premium-excess.ensures.hi cover cap are)

pub returns-clause-exact : goal.returns-clause-exact
returns-clause-exact c = λ cover cap are.
    let lo = c.level_premium-level.ensures.lo ∙ beta_lo_is cover cap c.args.parts.issue c.excess_premium-excess.result.lo are.issue (c.excess_premium-excess.ensures.lo cover cap are) in
    let hi = c.level_premium-level.ensures.hi ∙ beta_hi_is cover cap c.args.parts.issue c.excess_premium-excess.result.hi are.issue (c.excess_premium-excess.ensures.hi cover cap are) in
    rw (lo, hi) (beta-between cover cap are.reserved)

pub returns-clause-narrow : goal.returns-clause-narrow
returns-clause-narrow c =
    let cover = c.requires.cover in
    let cap = c.requires.cap in
    let are = c.requires.are in
    let lo = c.level_premium-level.ensures.lo ∙ beta_lo_is cover cap c.args.parts.issue c.excess_premium-excess.result.lo are.issue (c.excess_premium-excess.ensures.lo cover cap are) in
    let hi = c.level_premium-level.ensures.hi ∙ beta_hi_is cover cap c.args.parts.issue c.excess_premium-excess.result.hi are.issue (c.excess_premium-excess.ensures.hi cover cap are) in
    rw (lo, hi) (omega (arith, beta-narrow cover cap are.reserved))
