use Rattle.present_value.proofs.Names.{lit<, lit≤, whole, plus, over, survivors, ben, paid_up_mean}
use Rattle.present_value.proofs.worked.paid_up_means_by_hand.Goals as goal

pub returns : goal.returns
unfolding whole plus over survivors ben paid_up_mean
returns c = record {
  first = record { proper = lit< tt; above = lit≤ tt; below = lit≤ tt };
  second = record { proper = lit< tt; above = lit≤ tt; below = lit≤ tt };
  third = record { proper = lit< tt; above = lit≤ tt; below = lit≤ tt };
  end = record { proper = lit< tt; above = lit≤ tt; below = lit≤ tt };
}
