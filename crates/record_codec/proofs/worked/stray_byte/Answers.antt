use Rattle.std.proofs.Common.{refl}
use Rattle.record_codec.proofs.SpellingLemmas.{last_byte}
use Rattle.record_codec.proofs.worked.stray_byte.Goals as goal

pub returns : goal.returns
returns c = λ command h. last_byte h refl
