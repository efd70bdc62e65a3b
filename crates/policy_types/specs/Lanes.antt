-- What holds of the lanes of a script, whoever reads, makes or runs them
use Rattle.std.specs.Prelude.{ℕ, ◌<◌, List, ◌∷◌, map}
use Rattle.std.specs.List.{flat_map}
use Rattle.policy_types.specs.declared.script.Line.{Line}
use Rattle.policy_types.specs.declared.script.Lane.{Lane}

-- each number is below the next
abbrev pub AreRising : List ℕ → Type 0
AreRising (n ∷ m ∷ rest) = (n < m) × AreRising (m ∷ rest)
AreRising _ = Unit {0}

abbrev pub numbers_of : List Lane → List ℕ
numbers_of lanes = map (λ (lane : Lane). lane.number) lanes

-- the lines of all lanes, one lane after the other
abbrev pub lines_in : List Lane → List Line
lines_in lanes = flat_map (λ (lane : Lane). lane.lines) lanes
