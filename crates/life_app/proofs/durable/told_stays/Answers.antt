use Rattle.life_app.proofs.DurableModes.{always_stays}
use Rattle.life_app.proofs.durable.told_stays.Goals as goal

pub returns : goal.returns
returns g c = λ old new second kept input read output written shelf asked words auditors status obeys other empty none honest.
    always_stays g.D.Disk old new _ (record { empty = empty; none = none; tied = g.K.Sink.tied written }) g.E.Disk second kept words auditors _ _
    _ _ status other honest obeys
