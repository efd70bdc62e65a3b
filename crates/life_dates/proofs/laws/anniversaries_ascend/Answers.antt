use Rattle.life_dates.proofs.AnniversaryLemmas.{anniversary_zero, anniversary_lt, anniversary_in}
use Rattle.life_dates.proofs.laws.anniversaries_ascend.Goals as goal

pub returns-clause-first : goal.returns-clause-first
returns-clause-first c = anniversary_zero

pub returns-clause-ascend : goal.returns-clause-ascend
returns-clause-ascend c = anniversary_lt

pub returns-clause-last : goal.returns-clause-last
returns-clause-last c = anniversary_in
