use Rattle.std.proofs.Common.{refl, arith}
use Rattle.cash_projection.proofs.Adding.{alive_small, dying_small, after_small, premium_gained, death_gained, maturity_gained}
use Rattle.cash_projection.proofs.tally.Tally.add_path.Goals as goal

pub add-requires-clause-pairs : goal.add-requires-clause-pairs
add-requires-clause-pairs c =
    alive_small c.args.policy.now c.args.rates.now c.args.shape.now c.args.t c.args.self.now.years c.args.path.now c.requires.fits c.requires.year c.requires.path
    c.within-premiums.result.1 (omega (arith, c.within-premiums.ensures.last.1, c.saturating_sub-to.ensures, c.requires.fits.paid))

pub add-requires-2-clause-pairs : goal.add-requires-2-clause-pairs
add-requires-2-clause-pairs c =
    dying_small c.args.policy.now c.args.rates.now c.args.shape.now c.args.t c.args.self.now.years c.args.path.now c.requires.fits c.requires.year c.requires.path
    c.requires.fits.within c.within-deaths.result.1 (omega (arith, c.within-deaths.ensures.last.1))

pub add-requires-3-clause-pairs : goal.add-requires-3-clause-pairs
add-requires-3-clause-pairs c =
    after_small c.args.policy.now c.args.rates.now c.args.shape.now c.args.t c.args.self.now.years c.args.path.now c.requires.fits c.requires.year c.requires.path
    c.requires.fits.within c.alive_at_end.result.now c.alive_at_end.ensures.each c.within-maturities.result.1 (omega (arith, c.within-maturities.ensures.last.1))

pub returns : goal.returns
returns c =
    let policy = c.args.policy.now in
    let table = c.args.rates.now in
    let shape = c.args.shape.now in
    let t = c.args.t in
    let years = c.args.self.now.years in
    let path = c.args.path.now in
    record {
      same = refl;
      policies = refl;
      unvalued = omega arith;
      premium = premium_gained policy table shape t years path c.requires.fits c.requires.year c.requires.path _ _
          c.saturating_sub-from.result c.saturating_sub-to.result c.within-premiums.result.0 c.within-premiums.result.1 c.charged-cents.result
          c.saturating_sub-from.ensures c.saturating_sub-to.ensures c.charged-cents.ensures c.add.ensures c.within-premiums.ensures.same;
      death = death_gained policy table shape t years path c.requires.fits c.requires.year c.requires.path _ _
          c.within-deaths.result.0 c.within-deaths.result.1 c.add-2.ensures c.within-deaths.ensures.same;
      maturity = maturity_gained policy table shape t years path c.requires.fits c.requires.year c.requires.path
          c.requires.fits.within c.alive_at_end.result.now c.alive_at_end.ensures.each _ _
          c.maturity_from-first.result c.within-maturities.result.0 c.within-maturities.result.1 c.maturity_from-first.ensures c.add-3.ensures
          c.within-maturities.ensures.same;
    }
