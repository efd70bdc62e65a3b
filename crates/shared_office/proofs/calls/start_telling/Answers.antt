use Rattle.shared_office.proofs.Starting.{started}
use Rattle.shared_office.proofs.calls.start_telling.Goals as goal

pub returns-in-Ok-clause-started : goal.returns-in-Ok-clause-started
returns-in-Ok-clause-started g c =
    let made = c.in-Ok.ensures in (
      started g.D.Disk g.W.Watching c.args.disk c.args.watchers _ _ c.in_ok-state.state c.in_ok-state.ensures.opened c.in_ok-state.ensures.outlet c.of-handed.ensures _ c.of-opened.ensures _ made.ok.0,
      made.ok.1,
      made.facts,
    )
