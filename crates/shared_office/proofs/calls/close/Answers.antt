use Rattle.shared_office.proofs.Starting.{closed}
use Rattle.shared_office.proofs.calls.close.Goals as goal

pub returns-clause-closed : goal.returns-clause-closed
returns-clause-closed g c =
    closed g.D.Disk g.W.Watching c.close.result c.args.pass c.close.ensures.stood c.close.ensures.opened c.close.ensures.whole c.into_state.result
    c.close-2.result.0 _ _ _ c.into_state.ensures c.close-2.ensures.disk c.close-2.ensures.left c.close-2.ensures.ledger c.close-2.ensures.reports
    c.close-2.ensures.outlet c.close-2.ensures.safe
    (λ honest early late image before left. g.met.D.Disk.sooner c.close-2.result.0 early late image honest before left)
