use Rattle.std.proofs.Common.{◌∙◌}
use Rattle.crvm_reserve.proofs.Enclosed.{amount-encloses}
use Rattle.crvm_reserve.proofs.Tables.{amount_lo_is, amount_hi_is, amount_hi-most, reserve_lo-most, reserve_hi-most}
use Rattle.crvm_reserve.proofs.bounds.bounds_by_unit.Goals as goal

pub share_down-requires-clause-units : goal.share_down-requires-clause-units
share_down-requires-clause-units c =
    let made = c.requires.made.made in
    rw made.lo (reserve_lo-most c.requires.made.cover c.requires.made.cap c.requires.made.year made.reserved made.within)

pub share_up-requires-clause-units : goal.share_up-requires-clause-units
share_up-requires-clause-units c =
    let made = c.requires.made.made in
    rw made.hi (reserve_hi-most c.requires.made.cover c.requires.made.cap c.requires.made.year made.reserved)

pub returns-clause-rounded : goal.returns-clause-rounded
returns-clause-rounded c = λ cover cap t made.
    let lo = c.share_down.ensures ∙ amount_lo_is cover cap c.args.amount t _ made.lo in
    let hi = c.share_up.ensures ∙ amount_hi_is cover cap c.args.amount t _ made.hi in
    cc

pub returns-clause-exact : goal.returns-clause-exact
returns-clause-exact c = λ cover cap t made.
    let lo = c.share_down.ensures ∙ amount_lo_is cover cap c.args.amount t _ made.lo in
    let hi = c.share_up.ensures ∙ amount_hi_is cover cap c.args.amount t _ made.hi in
    rw (lo, hi) (amount-encloses cover cap c.args.amount t made.reserved made.within c.requires.amount)

pub returns-clause-most : goal.returns-clause-most
returns-clause-most c =
    let made = c.requires.made.made in
    let cover = c.requires.made.cover in
    let cap = c.requires.made.cap in
    let hi = c.share_up.ensures ∙ amount_hi_is cover cap c.args.amount c.requires.made.year _ made.hi in
    rw hi (amount_hi-most cover cap c.args.amount c.requires.made.year made.reserved)
