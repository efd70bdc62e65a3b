use Rattle.deficiency_reserve.proofs.Dues.{level}
use Rattle.deficiency_reserve.proofs.Minima.{never_below, equal_where_enough, falls, once_paid}
use Rattle.deficiency_reserve.proofs.laws.minimum_laws.Goals as goal

pub returns-clause-level : goal.returns-clause-level
returns-clause-level c = level

pub returns-clause-floor : goal.returns-clause-floor
returns-clause-floor c = never_below

pub returns-clause-enough : goal.returns-clause-enough
returns-clause-enough c = equal_where_enough

pub returns-clause-falls : goal.returns-clause-falls
returns-clause-falls c = falls

pub returns-clause-paid : goal.returns-clause-paid
returns-clause-paid c = once_paid
