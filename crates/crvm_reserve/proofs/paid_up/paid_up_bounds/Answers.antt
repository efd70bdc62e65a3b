use Rattle.std.proofs.Common.{arith}
use Rattle.crvm_reserve.proofs.PaidUp.{paid_up_at}
use Rattle.crvm_reserve.proofs.paid_up.paid_up_bounds.Goals as goal

pub returns-clause-rounded : goal.returns-clause-rounded
returns-clause-rounded c = λ cover made.
    let are = c.at.ensures cover made.columns_are (omega (arith, made.columns_are.years, c.requires.year)) in
    c.paid_up_by.ensures.rounded cover c.args.t (paid_up_at cover c.args.columns.now c.args.t _ made c.requires.year are)

pub returns-clause-exact : goal.returns-clause-exact
returns-clause-exact c = λ cover made.
    let are = c.at.ensures cover made.columns_are (omega (arith, made.columns_are.years, c.requires.year)) in
    c.paid_up_by.ensures.exact cover c.args.t (paid_up_at cover c.args.columns.now c.args.t _ made c.requires.year are)
