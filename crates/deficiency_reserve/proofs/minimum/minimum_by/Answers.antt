use Rattle.std.proofs.Common.{max, ◌∙◌, ap}
use Rattle.std.proofs.Math.Nat.{le_trans, max-le, le-max_left, le-max_right}
use Rattle.deficiency_reserve.proofs.Bounds.{minimum-encloses, gross_hi-most}
use Rattle.deficiency_reserve.proofs.minimum.minimum_by.Goals as goal

pub returns-clause-exact : goal.returns-clause-exact
returns-clause-exact c = λ cover cap t has.
    let lo = c.max.ensures ∙ ap (λ k. max c.args.ordinary.0 k) (c.reserve_by_gross-by_gross.ensures.lo cover t has.values_are) in
    let hi = c.max-2.ensures ∙ ap (λ k. max c.args.ordinary.1 k) (c.reserve_by_gross-by_gross.ensures.hi cover t has.values_are) in
    rw (lo, hi) (minimum-encloses cover cap t c.args.values.now c.args.ordinary c.args.amount c.args.premium has
    c.requires.insured c.requires.amount c.requires.premium)

pub returns-clause-most : goal.returns-clause-most
returns-clause-most c =
    let made = c.requires.made.has.values_are in
    let cover = c.requires.made.cover in
    let t = c.requires.made.year in
    let hi = c.max-2.ensures ∙ ap (λ k. max c.args.ordinary.1 k) (c.reserve_by_gross-by_gross.ensures.hi cover t made) in
    rw hi (max-le (le-max_left _ _) (le_trans (gross_hi-most cover c.args.amount c.args.premium t made.rates) (le-max_right _ _)))
