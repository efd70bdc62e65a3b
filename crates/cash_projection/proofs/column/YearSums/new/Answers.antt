use Rattle.cash_projection.proofs.Names.{ap, Sums}
use Rattle.cash_projection.proofs.Columns.{empty_sum}
use Rattle.cash_projection.proofs.column.YearSums.new.Goals as goal

pub returns-clause-none : goal.returns-clause-none
returns-clause-none c = λ j. (ap (λ (s : Sums). s.lo) (empty_sum 131 j), ap (λ (s : Sums). s.hi) (empty_sum 131 j))
