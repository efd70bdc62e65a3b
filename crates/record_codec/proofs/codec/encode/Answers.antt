use Rattle.record_codec.proofs.Names.{ap, sym, ◌∙◌, bytes_of}
use Rattle.record_codec.proofs.SpellingLemmas.{spelled_fields}
use Rattle.record_codec.proofs.codec.encode.Goals as goal

pub returns : goal.returns
returns c = c.body_with.ensures ∙ ap bytes_of c.fields_with.ensures ∙ sym (spelled_fields c.args.command.now)
