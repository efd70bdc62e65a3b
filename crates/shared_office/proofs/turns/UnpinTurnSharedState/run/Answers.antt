use Rattle.shared_office.proofs.Holding.{held_by}
use Rattle.shared_office.proofs.turns.UnpinTurnSharedState.run.Goals as goal

pub unpin-requires-clause-held : goal.unpin-requires-clause-held
unpin-requires-clause-held g c =
    let lent = c.requires.lent.3 in
    held_by c.args.value.now.state c.requires.lent.0 c.requires.lent.1 c.requires.lent.2 c.args.caller c.args.self.pin lent.stood.state
    lent.begins lent.own lent.need
