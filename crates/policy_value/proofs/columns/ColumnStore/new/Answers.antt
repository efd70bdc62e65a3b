use Rattle.policy_value.proofs.Names.{rules, All-nil, IsRightColumn}
use Rattle.policy_value.proofs.columns.ColumnStore.new.Goals as goal

pub returns-clause-right : goal.returns-clause-right
returns-clause-right c = λ basis. record {
  store = record { slots = search rules; one = search rules; most = search rules; some = search rules; room = search rules; wide = search rules };
  columns = rw c.in_ok-kept.ensures.items (All-nil (IsRightColumn basis _));
}
