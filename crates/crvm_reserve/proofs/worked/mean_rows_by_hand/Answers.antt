use Rattle.crvm_reserve.proofs.Names.{refl, level_bound, excess_bound, beta_bound, reserve_bound, net_bound, ben_bound, ann_bound}
use Rattle.crvm_reserve.proofs.worked.mean_rows_by_hand.Goals as goal

pub returns : goal.returns
unfolding ben_bound ann_bound level_bound excess_bound beta_bound reserve_bound net_bound
returns c = record { first = refl; second = refl; third = refl; end = refl }
