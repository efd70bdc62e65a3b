use Rattle.std.proofs.Common.{arith, ◌∙◌, ◌<◌}
use Rattle.crvm_reserve.proofs.MeanValues.{paid_up_mean_at}
use Rattle.crvm_reserve.proofs.MeanEnclosed.{paid_up_mean_end, paid_up_mean_reserve_end}
use Rattle.crvm_reserve.proofs.paid_up_mean.paid_up_mean_bounds.Goals as goal

pub returns-then-t-columns-clause-rounded : goal.returns-then-t-columns-clause-rounded
returns-then-t-columns-clause-rounded c = λ cover made.
    c.paid_up_bounds.ensures.rounded cover made
    ∙ paid_up_mean_end cover c.args.amount c.args.t (omega (arith, made.columns_are.years, c.if-t-columns.true))

pub returns-then-t-columns-clause-exact : goal.returns-then-t-columns-clause-exact
returns-then-t-columns-clause-exact c = λ cover made.
    rw (paid_up_mean_reserve_end cover c.args.t (omega (arith, made.columns_are.years, c.if-t-columns.true)))
    (c.paid_up_bounds.ensures.exact cover made)

pub returns-clause-rounded : goal.returns-clause-rounded
returns-clause-rounded c = λ cover made.
    let before : c.args.t < cover.n = omega (arith, made.columns_are.years, c.requires.year, c.if-t-columns.false) in
    let now = c.at.ensures cover made.columns_are (omega (arith, before)) in
    let next = c.at-2.ensures cover made.columns_are (omega (arith, before)) in
    c.paid_up_mean_by.ensures.rounded cover c.args.t (paid_up_mean_at cover c.args.columns.now c.args.t _ _ made before now next)

pub returns-clause-exact : goal.returns-clause-exact
returns-clause-exact c = λ cover made.
    let before : c.args.t < cover.n = omega (arith, made.columns_are.years, c.requires.year, c.if-t-columns.false) in
    let now = c.at.ensures cover made.columns_are (omega (arith, before)) in
    let next = c.at-2.ensures cover made.columns_are (omega (arith, before)) in
    c.paid_up_mean_by.ensures.exact cover c.args.t (paid_up_mean_at cover c.args.columns.now c.args.t _ _ made before now next)
