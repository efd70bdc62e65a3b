use Rattle.watcher_set.proofs.Names.{◌∙◌, ap, map, arith, take_all, report_at}
use Rattle.watcher_set.proofs.Telling.{AreTold-reports}
use Rattle.watcher_set.proofs.rounds.reports_of_all.Goals as goal

pub returns : goal.returns
returns g c before commands auditors told =
    c.loop-place.invariant
    ∙ ap (map (report_at g.B.Watcher)) (take_all c.loop-place.place-index c.args.places.now (omega (arith, c.loop-place-test.false)))
    ∙ AreTold-reports g.B.Watcher before commands auditors c.args.places.now told
