use Rattle.life_app.proofs.ToldValues.{told_enclosed, value_enclosed}
use Rattle.life_app.proofs.values.values_enclose.Goals as goal

pub returns-clause-run : goal.returns-clause-run
returns-clause-run g c = λ old new second kept input read output written shelf asked words auditors status name bytes lanes basis obeys run whole reads given empty none honest.
    told_enclosed g.D.Disk old new _ (record { empty = empty; none = none; tied = g.K.Sink.tied written }) g.E.Disk second kept words auditors _ _
    _ _ status name bytes lanes basis honest obeys run whole reads given

pub returns-clause-value : goal.returns-clause-value
returns-clause-value g c = λ old new second kept input read output written shelf asked words auditors status workers on at name measure basis files obeys value agree makes empty none honest.
    value_enclosed g.D.Disk old new _ (record { empty = empty; none = none; tied = g.K.Sink.tied written }) g.E.Disk second kept words auditors _ _
    _ _ status on at workers name measure basis files honest obeys value agree makes
