use Rattle.crvm_reserve.proofs.Names.{refl, ben_bound}
use Rattle.crvm_reserve.proofs.worked.paid_up_mean_rows_by_hand.Goals as goal

pub returns : goal.returns
unfolding ben_bound
returns c = record { first = refl; second = refl; third = refl; end = refl }
