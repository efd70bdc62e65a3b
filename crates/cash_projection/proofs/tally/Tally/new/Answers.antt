use Rattle.std.proofs.Common.{refl}
use Rattle.cash_projection.proofs.Tallying.{none_tallied}
use Rattle.cash_projection.proofs.tally.Tally.new.Goals as goal

pub returns : goal.returns
returns c = λ basis on. none_tallied basis on c.args.years _ refl refl refl
    c.new-premium.ensures.places c.new-death.ensures.places c.new-maturity.ensures.places
    c.new-premium.ensures.none c.new-death.ensures.none c.new-maturity.ensures.none
