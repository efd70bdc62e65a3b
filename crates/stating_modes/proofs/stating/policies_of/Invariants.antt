use Rattle.stating_modes.proofs.Names.{◌≡◌, take, flat_map, policy_text}
use Rattle.stating_modes.proofs.stating.policies_of.Given as goal

abbrev pub invariant-loop-index : goal.invariant-loop-index
invariant-loop-index l = l.lines ≡ flat_map policy_text (take l.index l.fn.policies)
