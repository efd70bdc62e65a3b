use Rattle.std.proofs.Common.{arith}
use Rattle.crvm_reserve.proofs.PaidUp.{paid_up_at}
use Rattle.deficiency_reserve.proofs.Bounds.{has_at}
use Rattle.deficiency_reserve.proofs.minimum.minimum_bounds.Goals as goal

pub returns-clause-rounded : goal.returns-clause-rounded
returns-clause-rounded c = λ cover made.
    let are = c.at.ensures cover made.columns_are (omega (arith, made.columns_are.years, c.requires.year)) in
    c.minimum_by.ensures.rounded cover c.args.t (paid_up_at cover c.args.columns.now c.args.t _ made c.requires.year are)

pub returns-clause-exact : goal.returns-clause-exact
returns-clause-exact c = λ cover cap have.
    let made = have.columns_are in
    let are = c.at.ensures cover made.columns_are (omega (arith, made.columns_are.years, c.requires.year)) in
    c.minimum_by.ensures.exact cover cap c.args.t
    (has_at cover cap c.args.t c.args.columns.now c.args.ordinary c.args.amount _ have c.requires.year are)
