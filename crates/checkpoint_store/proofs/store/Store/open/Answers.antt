-- The gate before the snapshot is written.
use Rattle.checkpoint_store.proofs.Stages.{opening}
use Rattle.checkpoint_store.proofs.store.Store.open.Goals as goal

pub returns-clause-gates : goal.returns-clause-gates
returns-clause-gates g c = λ honest stands safe.
    opening g.E.Disk c.args.self.now.disk c.put_gate.new.disk c.args.snapshot.now c.put_gate.result c.requires.sound stands safe (c.put_gate.ensures.gates honest) (c.put_gate.ensures.done honest)
