-- When a device in memory fails.
use Rattle.std.specs.Prelude.{ℕ, ◌+◌, ◌-◌, ◌^◌, min, List, Contains}
use Rattle.outside_io.specs.declared.fault_plan.FaultPlan.{FaultPlan}

-- the number after this one; it stands still at its type's end
abbrev pub number_after : ℕ → ℕ
number_after n = min (n + 1) (2 ^ 64 - 1)

-- the numbers, from 1, of the calls that are to fail
abbrev pub plan_failing : FaultPlan → List ℕ
plan_failing plan = plan.failing.items

-- how many calls were made
abbrev pub plan_calls : FaultPlan → ℕ
plan_calls plan = plan.calls

-- how many faults there were
abbrev pub plan_faults : FaultPlan → ℕ
plan_faults plan = plan.faults

-- the next call is to fail
abbrev pub FailsNext : FaultPlan → Type 0
FailsNext plan = Contains (plan_failing plan) (number_after (plan_calls plan))
