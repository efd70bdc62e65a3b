use Rattle.std.proofs.Common.{◌∙◌}
use Rattle.xtbml_subset.proofs.Runs.{from_text}
use Rattle.xtbml_subset.proofs.text.after_text.Goals as goal

pub returns-in_default-clause-after : goal.returns-in_default-clause-after
returns-in_default-clause-after c = c.from_byte.ensures.from ∙ from_text c.args.bytes.now
