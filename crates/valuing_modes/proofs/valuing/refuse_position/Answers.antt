use Rattle.std.proofs.Common.{◌∙◌}
use Rattle.valuing_modes.proofs.valuing.refuse_position.Goals as goal

pub returns-in-Ok-clause-says : goal.returns-in-Ok-clause-says
returns-in-Ok-clause-says g c = rw c.end.ensures.so (rw (c.as_slice.ensures ∙ c.in-Ok.ensures) at c.end.ensures.wrote)
