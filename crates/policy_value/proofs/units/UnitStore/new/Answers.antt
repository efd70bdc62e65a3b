use Rattle.policy_value.proofs.Names.{rules, All-nil, IsRightPlace}
use Rattle.policy_value.proofs.units.UnitStore.new.Goals as goal

pub returns : goal.returns
returns c = λ basis. record {
  store = record { some = search rules; few = search rules; most = search rules; room = search rules };
  places = c.add_places.ensures.right basis (rw c.in_ok-places.ensures.items (All-nil (IsRightPlace basis)));
}
