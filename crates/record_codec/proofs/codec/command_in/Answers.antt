use Rattle.record_codec.proofs.SpellingLemmas.{command_read}
use Rattle.record_codec.proofs.codec.command_in.Goals as goal

pub returns : goal.returns
returns c = command_read c.args.body.now c.fields_at.result c.command_with.result c.fields_at.ensures c.command_with.ensures
