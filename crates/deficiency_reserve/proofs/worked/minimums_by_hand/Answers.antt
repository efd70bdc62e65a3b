use Rattle.deficiency_reserve.proofs.Names.{refl, less, times, over, plus, lesser, whole, ben, ann, survivors, beta, excess, term_premium, renewal_premium, level_premium, reserve, ben_bound, ann_bound, greater, minimum}
use Rattle.crvm_reserve.specs.Rounded.{level_bound, excess_bound, beta_bound, reserve_bound}
use Rattle.deficiency_reserve.proofs.worked.minimums_by_hand.Goals as goal

pub returns-clause-short : goal.returns-clause-short
unfolding minimum greater reserve beta excess term_premium renewal_premium level_premium ben ann survivors less times over plus lesser whole ben_bound ann_bound level_bound excess_bound beta_bound reserve_bound
returns-clause-short c = (refl, refl, refl)

pub returns-clause-enough : goal.returns-clause-enough
unfolding minimum greater reserve beta excess term_premium renewal_premium level_premium ben ann survivors less times over plus lesser whole ben_bound ann_bound level_bound excess_bound beta_bound reserve_bound
returns-clause-enough c = (refl, refl, refl)

pub returns-clause-paid : goal.returns-clause-paid
unfolding minimum greater reserve beta excess term_premium renewal_premium level_premium ben ann survivors less times over plus lesser whole ben_bound ann_bound level_bound excess_bound beta_bound reserve_bound
returns-clause-paid c = (refl, refl, refl, refl, refl, refl)
