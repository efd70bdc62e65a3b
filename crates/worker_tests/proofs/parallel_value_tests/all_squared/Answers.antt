use Rattle.worker_tests.proofs.Workers.{take_every}
use Rattle.worker_tests.proofs.parallel_value_tests.all_squared.Goals as goal

pub map_in-requires-clause-taken : goal.map_in-requires-clause-taken
map_in-requires-clause-taken g c = λ κs within. take_every _ c.args.pieces.now c.args.items.now (λ piece item. tt)
