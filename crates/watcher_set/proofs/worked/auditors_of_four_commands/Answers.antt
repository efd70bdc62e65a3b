use Rattle.std.proofs.Common.{refl}
use Rattle.watcher_set.proofs.worked.auditors_of_four_commands.Goals as goal

pub returns-clause-noted : goal.returns-clause-noted
returns-clause-noted c = (refl, refl, refl, refl, refl, refl)

pub returns-clause-reports : goal.returns-clause-reports
returns-clause-reports c = refl

pub returns-clause-most : goal.returns-clause-most
returns-clause-most c = refl
