-- What one worker of a valuation takes and gives
use Rattle.std.specs.Prelude.{ℤ, List}
use Rattle.snapshot_value.specs.Names.{Dated, Policy, IsSound, most_worth, IsWithinAmount, Measure, Row}
use Rattle.policy_value.specs.Caches.{IsRightFor}
use Rattle.policy_value.specs.Rows.{IsValuedRow}
use Rattle.snapshot_value.specs.Valuing.{most_amount}
use Rattle.snapshot_value.specs.declared.worker.Worker.{Worker}

-- the policy's row, whose bounds are within what a policy may insure
abbrev pub IsSmallRow : List Dated → ℤ → Measure → Policy → Row → Type 0
IsSmallRow basis on measure policy row = IsValuedRow basis on measure policy row × IsWithinAmount (most_worth measure most_amount) row.worth

-- what it takes, if its cache is right for its basis
abbrev pub TakesPolicy : Worker → Policy → Type 0
TakesPolicy worker policy = IsRightFor worker.basis.now worker.cache × IsSound policy

-- what it gives for a policy
abbrev pub GivesRow : Worker → Policy → Row → Type 0
GivesRow worker policy row = IsSmallRow worker.basis.now worker.on worker.measure policy row

-- it takes each sound policy
abbrev pub IsReadyWorker : Worker → Type 0
IsReadyWorker worker = (policy : Policy) → IsSound policy → TakesPolicy worker policy

-- what it gives is the row by this basis on this day by this measure
abbrev pub ValuesBy : List Dated → ℤ → Measure → Worker → Type 0
ValuesBy basis on measure worker = (policy : Policy) (row : Row) → GivesRow worker policy row → IsSmallRow basis on measure policy row
