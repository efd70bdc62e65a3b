use Rattle.trial_load.proofs.LoadLanes.{ends_generated}
use Rattle.trial_load.proofs.generating.generate.Goals as goal

pub returns : goal.returns
returns g c = ends_generated c.args.seed c.args.count c.args.lanes c.make_script.result _ c.write_text.result c.make_script.ensures c.write_text.ensures
