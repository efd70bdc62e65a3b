use Rattle.std.proofs.Common.{◌-◌, arith, ap, ◌∙◌}
use Rattle.crvm_reserve.proofs.Tables.{small, reserve_lo_is, reserve_hi_is}
use Rattle.crvm_reserve.proofs.bounds.unit_reserve.Goals as goal

pub quotient_up-most-requires-clause-fits : goal.quotient_up-most-requires-clause-fits
quotient_up-most-requires-clause-fits c =
    let are = small c.requires.made.cover c.requires.made.cap c.requires.made.year c.args.values.now c.args.premium.now c.requires.made.made in
    omega (arith, are.hi)

pub quotient_down-least-requires-clause-fits : goal.quotient_down-least-requires-clause-fits
quotient_down-least-requires-clause-fits c =
    let are = small c.requires.made.cover c.requires.made.cap c.requires.made.year c.args.values.now c.args.premium.now c.requires.made.made in
    omega (arith, are.lo)

pub returns-clause-lo : goal.returns-clause-lo
returns-clause-lo c = λ cover cap t made.
    c.saturating_sub.ensures ∙ ap (λ k. c.args.values.now.ben.lo - k) c.quotient_up-most.ensures
    ∙ reserve_lo_is cover cap t c.args.values.now c.args.premium.now made

pub returns-clause-hi : goal.returns-clause-hi
returns-clause-hi c = λ cover cap t made.
    c.saturating_sub-2.ensures ∙ ap (λ k. c.args.values.now.ben.hi - k) c.quotient_down-least.ensures
    ∙ reserve_hi_is cover cap t c.args.values.now c.args.premium.now made

pub returns-clause-unit : goal.returns-clause-unit
returns-clause-unit c = λ cover cap t made. record {
  reserved = made.reserved;
  within = made.within;
  lo = c.saturating_sub.ensures ∙ ap (λ k. c.args.values.now.ben.lo - k) c.quotient_up-most.ensures ∙ reserve_lo_is cover cap t c.args.values.now c.args.premium.now made;
  hi = c.saturating_sub-2.ensures ∙ ap (λ k. c.args.values.now.ben.hi - k) c.quotient_down-least.ensures ∙ reserve_hi_is cover cap t c.args.values.now c.args.premium.now made;
}

pub returns-clause-small_lo : goal.returns-clause-small_lo
returns-clause-small_lo c =
    let are = small c.requires.made.cover c.requires.made.cap c.requires.made.year c.args.values.now c.args.premium.now c.requires.made.made in
    omega (arith, c.saturating_sub.ensures, are.ben_lo)

pub returns-clause-small_hi : goal.returns-clause-small_hi
returns-clause-small_hi c =
    let are = small c.requires.made.cover c.requires.made.cap c.requires.made.year c.args.values.now c.args.premium.now c.requires.made.made in
    omega (arith, c.saturating_sub-2.ensures, are.ben_hi)
