use Rattle.deficiency_reserve.proofs.Names.{refl, less, times, over, plus, lesser, whole, ben, ann, survivors, beta, excess, term_premium, renewal_premium, level_premium, reserve, ben_bound, ann_bound, greater, minimum}
use Rattle.crvm_reserve.specs.Rounded.{level_bound, excess_bound, beta_bound, reserve_bound}
use Rattle.deficiency_reserve.proofs.worked.premiums_by_hand.Goals as goal

pub returns-clause-open : goal.returns-clause-open
unfolding minimum greater reserve beta excess term_premium renewal_premium level_premium ben ann survivors less times over plus lesser whole ben_bound ann_bound level_bound excess_bound beta_bound reserve_bound
returns-clause-open c = (refl, refl, refl, refl)

pub returns-clause-exact : goal.returns-clause-exact
unfolding minimum greater reserve beta excess term_premium renewal_premium level_premium ben ann survivors less times over plus lesser whole ben_bound ann_bound level_bound excess_bound beta_bound reserve_bound
returns-clause-exact c = (refl, refl, refl)
