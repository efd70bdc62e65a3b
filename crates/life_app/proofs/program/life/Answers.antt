use Rattle.std.proofs.Common.{None, map, string_bytes}
use Rattle.life_app.proofs.ProgramSteps as step
use Rattle.life_app.proofs.ReasonSteps.{reason}
use Rattle.life_app.proofs.program.life.Goals as goal

pub returns-clause-obeys : goal.returns-clause-obeys
returns-clause-obeys g c = record {
  ending = c.obey-left.result.ending;
  exits = c.status.ensures;
  does = rw (c.in-None.is, c.new-watchers.ensures.handed) at c.obey-left.ensures.does;
}

pub returns-clause-reason : goal.returns-clause-reason
returns-clause-reason g c = (
  c.obey-left.result.ending,
  c.status.ensures,
  reason g.D.Disk g.D.Disk c.args.disk c.obey-left.result.disk (map string_bytes c.args.words.now) _ _ _ None _ _ _ _ c.obey-left.result.ending c.obey-left.ensures.does,
)

pub returns-clause-due : goal.returns-clause-due
returns-clause-due g c = rw c.status.ensures
    (step.due g.D.Disk g.D.Disk c.args.disk c.obey-left.result.disk None _ _ (map string_bytes c.args.words.now) _ _ _ _ _ c.obey-left.result.ending
    c.obey-left.ensures.does c.obey-left.ensures.counted c.obey-left.ensures.heard)

pub returns-clause-unopened : goal.returns-clause-unopened
returns-clause-unopened g c =
    step.unopened g.D.Disk g.D.Disk c.args.disk c.obey-left.result.disk None _ _ (map string_bytes c.args.words.now) _ _ _ _ _ c.obey-left.result.ending
    c.obey-left.ensures.does
