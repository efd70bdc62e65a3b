use Rattle.life_args.proofs.Either.{asked_or_not}
use Rattle.life_args.proofs.laws.words_ask_or_not.Goals as goal

pub returns : goal.returns
returns c = asked_or_not
