use denote.Param.Send.{sendable}
use Rattle.std.proofs.Crossing.{crosses}
use Rattle.snapshot_value.proofs.Crossing.{worker_crosses}
use Rattle.snapshot_value.proofs.WorkerSteps.{added_rows, ready_take}
use Rattle.snapshot_value.proofs.worksheet.value_all.Goals as goal

pub map_onto-requires-clause-taken : goal.map_onto-requires-clause-taken
map_onto-requires-clause-taken g c κs within = ready_take c.args.workers.now c.args.policies.now c.requires.ready c.requires.sound

pub map_onto-requires-send-P : goal.map_onto-requires-send-P
map_onto-requires-send-P g c κs within = search (worker_crosses, sendable, crosses) depth 20

pub returns-clause-rows : goal.returns-clause-rows
returns-clause-rows g c = λ basis on measure by.
    added_rows basis on measure c.args.workers.now c.args.policies.now c.args.rows.now.items c.map_onto.new.values.items by c.in_ok-map_onto.ensures.values
