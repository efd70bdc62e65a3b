use Rattle.record_codec.proofs.SpellingLemmas.{one_command}
use Rattle.record_codec.proofs.codec.spells_one_command.Goals as goal

pub returns : goal.returns
returns c = one_command
