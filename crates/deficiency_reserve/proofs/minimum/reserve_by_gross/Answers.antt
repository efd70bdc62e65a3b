use Rattle.deficiency_reserve.proofs.Bounds.{gross_lo_is, gross_hi_is}
use Rattle.deficiency_reserve.proofs.minimum.reserve_by_gross.Goals as goal

pub returns-clause-lo : goal.returns-clause-lo
returns-clause-lo c = λ cover t made.
    let is = gross_lo_is cover c.args.amount c.args.premium t c.args.values.now made.values_are in
    cc

pub returns-clause-hi : goal.returns-clause-hi
returns-clause-hi c = λ cover t made.
    let is = gross_hi_is cover c.args.amount c.args.premium t c.args.values.now made.values_are in
    cc
