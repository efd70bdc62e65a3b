use Rattle.cash_projection.proofs.Names.{lit<, lit≤, refl, alive, alive_by}
use Rattle.cash_projection.proofs.worked.endowment_by_hand.Goals as goal

pub returns : goal.returns
unfolding alive alive_by
returns c = record {
  first = record { exact = record { premium = record { between = record { proper = lit< tt; above = lit≤ tt; below = lit≤ tt }; narrow = lit≤ tt; most = lit≤ tt }; death = record { between = record { proper = lit< tt; above = lit≤ tt; below = lit≤ tt }; narrow = lit≤ tt; most = lit≤ tt }; maturity = record { between = record { proper = lit< tt; above = lit≤ tt; below = lit≤ tt }; narrow = lit≤ tt; most = lit≤ tt } }; rounded = refl };
  second = record { exact = record { premium = record { between = record { proper = lit< tt; above = lit≤ tt; below = lit≤ tt }; narrow = lit≤ tt; most = lit≤ tt }; death = record { between = record { proper = lit< tt; above = lit≤ tt; below = lit≤ tt }; narrow = lit≤ tt; most = lit≤ tt }; maturity = record { between = record { proper = lit< tt; above = lit≤ tt; below = lit≤ tt }; narrow = lit≤ tt; most = lit≤ tt } }; rounded = refl };
  third = record { exact = record { premium = record { between = record { proper = lit< tt; above = lit≤ tt; below = lit≤ tt }; narrow = lit≤ tt; most = lit≤ tt }; death = record { between = record { proper = lit< tt; above = lit≤ tt; below = lit≤ tt }; narrow = lit≤ tt; most = lit≤ tt }; maturity = record { between = record { proper = lit< tt; above = lit≤ tt; below = lit≤ tt }; narrow = lit≤ tt; most = lit≤ tt } }; rounded = refl };
  fourth = record { exact = record { premium = record { between = record { proper = lit< tt; above = lit≤ tt; below = lit≤ tt }; narrow = lit≤ tt; most = lit≤ tt }; death = record { between = record { proper = lit< tt; above = lit≤ tt; below = lit≤ tt }; narrow = lit≤ tt; most = lit≤ tt }; maturity = record { between = record { proper = lit< tt; above = lit≤ tt; below = lit≤ tt }; narrow = lit≤ tt; most = lit≤ tt } }; rounded = refl };
}
