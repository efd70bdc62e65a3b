use Rattle.worker_tests.proofs.Workers.{take_every}
use Rattle.worker_tests.proofs.parallel_value_tests.add_squared.Goals as goal

pub map_onto-requires-clause-taken : goal.map_onto-requires-clause-taken
map_onto-requires-clause-taken g c = λ κs within. take_every _ c.args.pieces.now c.args.items.now (λ piece item. tt)
