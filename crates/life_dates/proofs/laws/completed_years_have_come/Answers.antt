use Rattle.life_dates.proofs.AnniversaryLemmas.{IsCompleted-come}
use Rattle.life_dates.proofs.laws.completed_years_have_come.Goals as goal

pub returns : goal.returns
returns c = IsCompleted-come
