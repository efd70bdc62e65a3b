use Rattle.policy_value.proofs.Names.{refl, All-nil, IsRightPremium}
use Rattle.policy_value.proofs.cache.ColumnCache.with_room.Goals as goal

pub returns-clause-right : goal.returns-clause-right
returns-clause-right c = λ basis. record {
  premiums = rw c.in_ok-premiums.ensures (All-nil (IsRightPremium basis));
  columns = c.in_ok-columns.ensures.right basis;
  units = c.in_ok-units.ensures basis;
}

pub returns-clause-empty : goal.returns-clause-empty
returns-clause-empty c = (rw c.in_ok-premiums.ensures refl, refl)
