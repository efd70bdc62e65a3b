-- The number after a policy's five draws
use Rattle.std.specs.Prelude.{ℕ}
use Rattle.load_maker.specs.Generator.{renewed}

abbrev pub renewed_by_policy : ℕ → ℕ
renewed_by_policy x = renewed (renewed (renewed (renewed (renewed x))))
