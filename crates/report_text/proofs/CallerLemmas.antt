-- For who makes rows and has them printed.
use Rattle.report_text.proofs.Names.{ℕ, ◌≤◌, arith, IsSummable}
use Rattle.policy_value.specs.declared.worth.Worth.{Worth}
use Rattle.policy_value.specs.declared.worth.Worth.TheVariants.{Bounds, Both, Word}
use Rattle.policy_value.specs.Rows.{IsWithinAmount}

-- what is worth at most an amount within the limit can be added up
pub IsSummable-from_within : (amount : ℕ) (worth : Worth) → amount ≤ 20000000000 → IsWithinAmount amount worth → IsSummable worth
IsSummable-from_within amount (Bounds lo hi) small within = (omega arith, omega arith)
IsSummable-from_within amount (Both lo hi min_lo min_hi test) small within = (omega arith, omega arith, omega arith, omega arith)
IsSummable-from_within amount (Word reason) small within = tt
