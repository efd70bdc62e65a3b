use Rattle.shared_office.proofs.Holding.{may_read}
use Rattle.shared_office.proofs.turns.ReadPartTurnSharedState.run.Goals as goal

pub read-requires-clause-held : goal.read-requires-clause-held
read-requires-clause-held g c =
    let lent = c.requires.lent.3 in
    may_read c.args.value.now.state c.requires.lent.0 c.requires.lent.1 c.requires.lent.2 c.args.caller c.args.self.pin lent.stood.state
    lent.begins lent.own lent.need.0 c.args.self.first lent.need.1
