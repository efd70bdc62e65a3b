use Rattle.std.proofs.Common.{ℕ, List, ◌++◌, take}
use Rattle.decimal_text.specs.inside.Places.{Counts}
use Rattle.decimal_text.proofs.units.Units.push_all.Given as goal

abbrev pub invariant-loop-digit : goal.invariant-loop-digit
invariant-loop-digit l = (places : ℕ) (seen : List ℕ) → Counts places seen l.fn.self → Counts places (seen ++ take l.digit-index l.digits) l.self
