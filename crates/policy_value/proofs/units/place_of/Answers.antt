use Rattle.std.proofs.Common.{arith}
use Rattle.std.proofs.lemmas.Nat.{mod_below}
use Rattle.policy_value.proofs.units.place_of.Goals as goal

pub returns-clause-within : goal.returns-clause-within
returns-clause-within c = mod_below _ c.args.count (omega (arith, c.requires))
