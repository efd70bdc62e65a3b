use Rattle.life_dates.proofs.TextLemmas.{IsDayText-day_text, day_text-only}
use Rattle.life_dates.proofs.laws.texts_are_exact.Goals as goal

pub returns-clause-printed : goal.returns-clause-printed
returns-clause-printed c = IsDayText-day_text

pub returns-clause-only : goal.returns-clause-only
returns-clause-only c = day_text-only
