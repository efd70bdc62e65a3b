use Rattle.std.proofs.Common.{arith}
use Rattle.crvm_reserve.proofs.Tables.{made_at}
use Rattle.crvm_reserve.proofs.bounds.reserve_bounds.Goals as goal

pub returns-clause-exact : goal.returns-clause-exact
returns-clause-exact c = λ cover cap made.
    let are = c.at.ensures cover made.columns_are (omega (arith, made.columns_are.years, c.requires.year)) in
    c.bounds_by.ensures.exact cover cap c.args.t (made_at cover cap c.args.columns.now c.args.premium.now c.args.t _ made c.requires.year are)
