use Rattle.present_value.proofs.Names.{lit<, lit≤, whole, plus, less, over, lesser, survivors, ben, ann, net_premium}
use Rattle.present_value.specs.Premium.{term_premium, renewal_premium, level_premium, excess, beta}
use Rattle.present_value.proofs.worked.net_premiums_by_hand.Goals as goal

pub returns : goal.returns
unfolding whole plus less over lesser survivors ben ann term_premium renewal_premium level_premium excess beta net_premium
returns c = record {
  first = record { proper = lit< tt; above = lit≤ tt; below = lit≤ tt };
  second = record { proper = lit< tt; above = lit≤ tt; below = lit≤ tt };
  third = record { proper = lit< tt; above = lit≤ tt; below = lit≤ tt };
  last = record { proper = lit< tt; above = lit≤ tt; below = lit≤ tt };
  after = record { proper = lit< tt; above = lit≤ tt; below = lit≤ tt };
}
