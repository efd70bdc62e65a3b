use Rattle.checkpoint_store.proofs.OneSnapshot.{one_snapshot}
use Rattle.checkpoint_store.proofs.laws.one_snapshot_a_file.Goals as goal

pub returns : goal.returns
returns c = one_snapshot
