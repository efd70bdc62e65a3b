-- A gate that wasn't known is written; what stands behind it stays.
use Rattle.checkpoint_store.proofs.Stages.{regate_knows, regate_left, safe_shut}
use Rattle.checkpoint_store.proofs.store.Store.close.Goals as goal

pub returns-in_err-put_gate-clause-left : goal.returns-in_err-put_gate-clause-left
returns-in_err-put_gate-clause-left g c = λ honest knows.
    let old = c.args.self.now in
    let gates = c.put_gate.ensures.gates honest in
    regate_left g.E.Disk old _ c.requires knows gates (regate_knows g.E.Disk old.disk c.put_gate.new.disk old.closed c.requires knows gates)
    (λ image left. g.met.E.Disk.only_now old.disk image (c.put_gate.ensures.disk.honesty honest) left)

pub returns-clause-left : goal.returns-clause-left
returns-clause-left g c = λ honest knows.
    let old = c.args.self.now in
    let done = c.in_ok-put_gate.ensures.done honest in
    regate_left g.E.Disk old _ c.requires knows (c.put_gate.ensures.gates honest) (safe_shut g.E.Disk c.put_gate.new.disk _ done.0 done.1)
    (λ image left. g.met.E.Disk.only_now old.disk image (c.put_gate.ensures.disk.honesty honest) left)
