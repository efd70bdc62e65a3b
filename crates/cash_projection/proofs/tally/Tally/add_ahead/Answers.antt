use Rattle.cash_projection.proofs.Names.{refl, arith, subst, sym, ◌+◌, table_along, prospect_of, IsSurvivalPath}
use Rattle.cash_projection.proofs.Adding.{ended_idle, prospect_small}
use Rattle.cash_projection.proofs.tally.Tally.add_ahead.Goals as goal

pub returns-then-t-shape-clause-added : goal.returns-then-t-shape-clause-added
returns-then-t-shape-clause-added c =
    let rates = table_along c.args.table.now c.args.shape.now.age in
    c.add_nothing.ensures (prospect_of c.args.policy.now rates c.args.shape.now c.args.t)
    (ended_idle c.args.policy.now rates c.args.shape.now c.args.t c.requires.fits.paid (omega (arith, c.if-t-shape.true))) refl

pub returns-then-t-shape-clause-small : goal.returns-then-t-shape-clause-small
returns-then-t-shape-clause-small c =
    let rates = table_along c.args.table.now c.args.shape.now.age in
    prospect_small c.args.policy.now rates c.args.shape.now c.args.t c.requires.sound c.requires.fits c.requires.fits.within

pub returns-clause-small : goal.returns-clause-small
returns-clause-small c =
    let rates = table_along c.args.table.now c.args.shape.now.age in
    prospect_small c.args.policy.now rates c.args.shape.now c.args.t c.requires.sound c.requires.fits c.requires.fits.within

pub add_path-requires-clause-path : goal.add_path-requires-clause-path
add_path-requires-clause-path c =
    let none = c.at.result.now in
    subst (λ p. IsSurvivalPath c.in-Some.rates.now (c.args.shape.now.age + c.args.t) p) (sym (c.at.ensures none)) (c.place_of-place.ensures.here.here none)
