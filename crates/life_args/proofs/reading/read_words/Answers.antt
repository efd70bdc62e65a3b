use Rattle.life_args.proofs.Exact.{gives_due}
use Rattle.life_args.proofs.reading.read_words.Goals as goal

pub returns-clause-due : goal.returns-clause-due
returns-clause-due c = λ answer due.
    gives_due c.args.words.now c.read_mode.result answer c.read_mode.ensures.mode c.read_mode.ensures.fault due
