-- A rate of interest in basis points: a whole number from 0 to 2000, in decimal digits with no
-- leading zero.
use Rattle.std.specs.Prelude.{◌≡◌, ◌≢◌, ℕ, ◌<◌, ◌≤◌, List, length, slice_index}
use Rattle.std.specs.Str.Parse.{AllDigits, digits_value}

pub record IsPoints (text : List ℕ) (points : ℕ) : Type 0 where
  pub digits : AllDigits 10 text
  pub some : 1 ≤ length text
  pub plain : 1 < length text → slice_index text 0 ≢ 48
  pub value : digits_value 10 text ≡ points
  pub most : points ≤ 2000
