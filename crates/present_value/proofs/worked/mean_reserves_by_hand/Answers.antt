use Rattle.present_value.proofs.Names.{lit<, lit≤, whole, plus, less, times, over, lesser, survivors, ben, ann, net_premium, mean_reserve}
use Rattle.present_value.specs.Premium.{term_premium, renewal_premium, level_premium, excess, beta}
use Rattle.present_value.specs.Reserve.{reserve}
use Rattle.present_value.proofs.worked.mean_reserves_by_hand.Goals as goal

pub returns : goal.returns
unfolding whole plus less times over lesser survivors ben ann term_premium renewal_premium level_premium excess beta reserve net_premium mean_reserve
returns c = record {
  first = record { proper = lit< tt; above = lit≤ tt; below = lit≤ tt };
  second = record { proper = lit< tt; above = lit≤ tt; below = lit≤ tt };
  third = record { proper = lit< tt; above = lit≤ tt; below = lit≤ tt };
  end = record { proper = lit< tt; above = lit≤ tt; below = lit≤ tt };
  paid = record { proper = lit< tt; above = lit≤ tt; below = lit≤ tt };
}
