-- What the counted units are, for the digits that have come.
use Rattle.std.specs.Prelude.{◌≡◌, ℕ, ◌-◌, ◌↔◌, IsTrue, List, length, take, drop, min}
use Rattle.std.specs.Str.Parse.{digits_value}
use Rattle.decimal_text.specs.declared.units.Units.{Units}

pub record Counts (places : ℕ) (seen : List ℕ) (units : Units) : Type 0 where
  pub count : units.count ≡ min (digits_value 10 (take places seen)) 1000000001
  pub left : units.places ≡ places - length seen
  pub exact : IsTrue units.is_exact ↔ (digits_value 10 (drop places seen) ≡ 0)
