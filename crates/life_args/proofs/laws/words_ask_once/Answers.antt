use Rattle.std.proofs.Common.{map, string_bytes}
use Rattle.life_args.proofs.Answering.{ask_once}
use Rattle.life_args.proofs.laws.words_ask_once.Goals as goal

pub returns : goal.returns
returns c = λ words mode other first second. ask_once (map string_bytes words) mode other first second
