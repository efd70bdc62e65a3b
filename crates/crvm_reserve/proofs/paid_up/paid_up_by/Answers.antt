use Rattle.std.proofs.Common.{◌∙◌}
use Rattle.crvm_reserve.proofs.PaidUp.{paid_up_lo_is, paid_up_hi_is, paid_up-encloses, paid_up_hi-most, small_lo, small_hi}
use Rattle.crvm_reserve.proofs.paid_up.paid_up_by.Goals as goal

pub share_down-requires-clause-units : goal.share_down-requires-clause-units
share_down-requires-clause-units c = small_lo c.requires.made.cover c.requires.made.year c.args.values.now c.requires.made.made

pub share_up-requires-clause-units : goal.share_up-requires-clause-units
share_up-requires-clause-units c = small_hi c.requires.made.cover c.requires.made.year c.args.values.now c.requires.made.made

pub returns-clause-rounded : goal.returns-clause-rounded
returns-clause-rounded c = λ cover t made.
    let lo = c.share_down.ensures ∙ paid_up_lo_is cover c.args.amount t c.args.values.now made.values_are in
    let hi = c.share_up.ensures ∙ paid_up_hi_is cover c.args.amount t c.args.values.now made.values_are in
    cc

pub returns-clause-exact : goal.returns-clause-exact
returns-clause-exact c = λ cover t made.
    let lo = c.share_down.ensures ∙ paid_up_lo_is cover c.args.amount t c.args.values.now made.values_are in
    let hi = c.share_up.ensures ∙ paid_up_hi_is cover c.args.amount t c.args.values.now made.values_are in
    rw (lo, hi) (paid_up-encloses cover c.args.amount t made.years made.within c.requires.amount)

pub returns-clause-most : goal.returns-clause-most
returns-clause-most c =
    let made = c.requires.made.made in
    let hi = c.share_up.ensures ∙ paid_up_hi_is c.requires.made.cover c.args.amount c.requires.made.year c.args.values.now made.values_are in
    rw hi (paid_up_hi-most c.requires.made.cover c.args.amount c.requires.made.year made.rates)
