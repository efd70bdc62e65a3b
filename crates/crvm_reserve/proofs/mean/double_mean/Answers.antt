use Rattle.crvm_reserve.proofs.Names.{ap, ◌∙◌, net_lo, net_hi}
use Rattle.crvm_reserve.proofs.Tables.{small}
use Rattle.crvm_reserve.proofs.MeanValues.{parts_start, parts_end, double_lo_is, double_hi_is}
use Rattle.crvm_reserve.proofs.mean.double_mean.Goals as goal

pub net_premium_of-net-requires-clause-lo : goal.net_premium_of-net-requires-clause-lo
net_premium_of-net-requires-clause-lo c =
    let made = c.requires in
    (small made.cover made.cap made.year _ _ (parts_start made.cover made.cap made.year c.args.parts.now made.are)).premium_lo

pub net_premium_of-net-requires-clause-hi : goal.net_premium_of-net-requires-clause-hi
net_premium_of-net-requires-clause-hi c =
    let made = c.requires in
    (small made.cover made.cap made.year _ _ (parts_start made.cover made.cap made.year c.args.parts.now made.are)).premium_hi

pub returns-clause-lo : goal.returns-clause-lo
returns-clause-lo c = λ cover cap t are.
    double_lo_is cover cap t _ _ _
    (c.unit_reserve-start.ensures.lo cover cap t (parts_start cover cap t c.args.parts.now are))
    (c.net_premium_of-net.ensures.lo cover cap are.premium are.payments ∙ ap (λ k. net_lo cover cap k) are.year)
    (c.unit_reserve-end.ensures.lo cover cap _ (parts_end cover cap t c.args.parts.now are))

pub returns-clause-hi : goal.returns-clause-hi
returns-clause-hi c = λ cover cap t are.
    double_hi_is cover cap t _ _ _
    (c.unit_reserve-start.ensures.hi cover cap t (parts_start cover cap t c.args.parts.now are))
    (c.net_premium_of-net.ensures.hi cover cap are.premium are.payments ∙ ap (λ k. net_hi cover cap k) are.year)
    (c.unit_reserve-end.ensures.hi cover cap _ (parts_end cover cap t c.args.parts.now are))
