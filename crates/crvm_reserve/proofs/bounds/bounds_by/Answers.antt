use Rattle.crvm_reserve.proofs.Enclosed.{reserve-close}
use Rattle.crvm_reserve.proofs.bounds.bounds_by.Goals as goal

pub bounds_by_unit-requires-clause-made : goal.bounds_by_unit-requires-clause-made
bounds_by_unit-requires-clause-made c =
    let made = c.requires.made in
    record { cover = made.cover; cap = made.cap; year = made.year; made = c.unit_reserve.ensures.unit made.cover made.cap made.year made.made }

pub returns-clause-rounded : goal.returns-clause-rounded
returns-clause-rounded c = λ cover cap t made. c.bounds_by_unit.ensures.rounded cover cap t (c.unit_reserve.ensures.unit cover cap t made)

pub returns-clause-exact : goal.returns-clause-exact
returns-clause-exact c = λ cover cap t made. c.bounds_by_unit.ensures.exact cover cap t (c.unit_reserve.ensures.unit cover cap t made)

pub returns-clause-close : goal.returns-clause-close
returns-clause-close c = λ cover cap t made. reserve-close cover cap t made.reserved made.within
