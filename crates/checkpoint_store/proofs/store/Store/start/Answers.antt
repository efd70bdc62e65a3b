-- The store knows what was looked at.
use Rattle.checkpoint_store.proofs.Stages.{opened_earlier}
use Rattle.checkpoint_store.proofs.store.Store.start.Goals as goal

pub returns-in-Ok-clause-opened : goal.returns-in-Ok-clause-opened
returns-in-Ok-clause-opened g c = λ honest.
    let new = c.look.new.disk in
    let gate = c.in-Ok.ensures.gate honest in
    record {
      safe = gate.safe;
      knows = gate.knows;
      earlier = opened_earlier g.E.Disk c.args.disk new c.in-Ok.closed (c.in-Ok.ensures.unwritten honest) gate (g.met.E.Disk.reads_as_image new honest);
    }
