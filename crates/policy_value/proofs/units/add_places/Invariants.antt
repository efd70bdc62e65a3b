use Rattle.policy_value.proofs.Names.{◌≡◌, ◌-◌, ◌≤◌, List, All, length, vec_capacity, Dated, IsRightPlace}
use Rattle.policy_value.proofs.units.add_places.Given as goal

abbrev pub invariant-loop-made : goal.invariant-loop-made
invariant-loop-made l = record {
  count : length l.places.items ≡ l.made;
  most : l.made ≤ l.count;
  room : vec_capacity l.places ≡ vec_capacity l.fn.places;
  right : (basis : List Dated) → All (IsRightPlace basis) l.fn.places.items → All (IsRightPlace basis) l.places.items;
}

abbrev pub decreases-loop-made : goal.decreases-loop-made
decreases-loop-made l = l.count - l.made
