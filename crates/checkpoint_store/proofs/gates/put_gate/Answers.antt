-- The gate is written, and then made safe.
use Rattle.checkpoint_store.proofs.GateSteps.{gate_done, gate_synced, written_gate}
use Rattle.checkpoint_store.proofs.gates.put_gate.Goals as goal

pub returns-in_err-write_at-clause-gates : goal.returns-in_err-write_at-clause-gates
returns-in_err-write_at-clause-gates g c = λ honest.
    written_gate g.E.Disk c.args.disk.now c.write_at.new.self c.args.gate c.write_at.result (c.write_at.ensures.facts honest) (c.write_at.ensures.time honest)

pub returns-clause-gates : goal.returns-clause-gates
returns-clause-gates g c = λ honest.
    let honest_mid = c.sync.ensures.honesty honest in
    let wrote = written_gate g.E.Disk c.args.disk.now c.write_at.new.self c.args.gate c.write_at.result (c.write_at.ensures.facts honest_mid) (c.write_at.ensures.time honest_mid) in
    gate_synced g.E.Disk c.args.disk.now c.write_at.new.self c.sync.new.self c.sync.result wrote (c.sync.ensures.facts honest) (c.sync.ensures.time honest)

pub returns-clause-done : goal.returns-clause-done
returns-clause-done g c = λ honest.
    gate_done g.E.Disk c.args.disk.now c.write_at.new.self c.sync.new.self c.args.gate c.sync.result
    (c.in_ok-write_at.ensures.facts (c.sync.ensures.honesty honest)).written (c.sync.ensures.facts honest)
