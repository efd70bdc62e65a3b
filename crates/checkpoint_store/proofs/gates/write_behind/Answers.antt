-- A closed gate stays.
use Rattle.checkpoint_store.proofs.GateSteps.{shut_write}
use Rattle.checkpoint_store.proofs.gates.write_behind.Goals as goal

pub returns-clause-shut : goal.returns-clause-shut
returns-clause-shut g c = λ honest shut.
    shut_write g.E.Disk c.args.disk.now c.write_at.new.self c.args.at c.args.bytes.now c.write_at.result c.requires.behind (c.write_at.ensures.facts honest) (c.write_at.ensures.time honest) shut

pub returns-clause-written : goal.returns-clause-written
returns-clause-written g c = λ honest. (c.write_at.ensures.facts honest).written
