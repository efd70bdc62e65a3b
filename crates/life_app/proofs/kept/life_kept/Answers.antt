use Rattle.std.proofs.Common.{Some, map, string_bytes}
use Rattle.life_app.proofs.ProgramSteps as step
use Rattle.life_app.proofs.ReasonSteps.{reason}
use Rattle.life_app.proofs.kept.life_kept.Goals as goal

pub returns-clause-obeys : goal.returns-clause-obeys
returns-clause-obeys g c = record {
  ending = c.obey-left.result.ending;
  exits = c.status.ensures;
  does = rw (c.in-Some.is, c.new-watchers.ensures.handed) at c.obey-left.ensures.does;
}

pub returns-clause-reason : goal.returns-clause-reason
returns-clause-reason g c = (
  c.obey-left.result.ending,
  c.status.ensures,
  reason g.D.Disk g.E.Disk c.args.disk c.obey-left.result.disk (map string_bytes c.args.words.now) _ _ _ (Some c.args.second) (Some c.in-Some.second) _ _ _
      c.obey-left.result.ending (rw c.in-Some.is at c.obey-left.ensures.does),
)

pub returns-clause-due : goal.returns-clause-due
returns-clause-due g c = rw c.status.ensures
    (step.due g.D.Disk g.E.Disk c.args.disk c.obey-left.result.disk (Some c.args.second) (Some c.in-Some.second) _ (map string_bytes c.args.words.now) _ _ _ _ _
    c.obey-left.result.ending (rw c.in-Some.is at c.obey-left.ensures.does) c.obey-left.ensures.counted c.obey-left.ensures.heard)

pub returns-clause-unopened : goal.returns-clause-unopened
returns-clause-unopened g c =
    step.unopened g.D.Disk g.E.Disk c.args.disk c.obey-left.result.disk (Some c.args.second) _ _ (map string_bytes c.args.words.now) _ _ _ _ _ c.obey-left.result.ending
    c.obey-left.ensures.does
