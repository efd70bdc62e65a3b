use Rattle.std.proofs.Common.{refl}
use Rattle.cash_projection.proofs.Adding.{idle_added}
use Rattle.cash_projection.proofs.tally.Tally.add_nothing.Goals as goal

pub returns : goal.returns
returns c = λ p idle is. idle_added _ _ c.args.words p idle is c.requires.room.0.premium.places c.requires.room.0.death.places
    c.requires.room.0.maturity.places refl refl refl refl refl refl
