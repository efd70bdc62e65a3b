use denote.Param.Send.{sendable}
use Rattle.std.proofs.Common.{◌*◌}
use Rattle.shared_office.proofs.Crossing.{crosses_office}
use Rattle.measure.proofs.Posting.{has_posted}
use Rattle.measure.proofs.issues.post_issues.Goals as goal

pub lanes-pass-requires-send-T : goal.lanes-pass-requires-send-T
lanes-pass-requires-send-T g c κs within = search (crosses_office, sendable) depth 20

pub returns-clause-posted : goal.returns-clause-posted
returns-clause-posted g c =
    has_posted g.D.Disk g.W.Watching c.args.disk c.close-disk.result.0 c.args.watchers (c.args.callers * c.args.each) c.lanes-pass.result.1 _ _ c.in_ok-office.pass c.lanes-pass.result.0
    c.in_ok-office.ensures.started.0
    c.lanes-pass.ensures.take
    c.close-disk.ensures.closed
    c.close-disk.ensures.facts
