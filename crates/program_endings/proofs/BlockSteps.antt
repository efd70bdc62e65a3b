-- The rows of a snapshot can be written
use Rattle.program_endings.proofs.Names.{ℕ, ◌≤◌, ℤ, List, arith, All-weaker, Command}
use Rattle.basis_book.specs.Dated.{Dated}
use Rattle.policy_value.specs.Measures.{most_worth}
use Rattle.policy_value.specs.Rows.{IsWithinAmount}
use Rattle.policy_value.specs.declared.worth.Measure.{Measure}
use Rattle.policy_value.specs.declared.worth.Measure.TheVariants.{Terminal, Mean, Deficiency}
use Rattle.policy_value.specs.declared.worth.Row.{Row}
use Rattle.policy_value.specs.declared.worth.Worth.{Worth}
use Rattle.policy_value.specs.declared.worth.Worth.TheVariants.{Bounds, Both, Word}
use Rattle.report_text.specs.Block.{IsSummable}
use Rattle.snapshot_value.specs.Valuing.{IsSnapshot}
use Rattle.snapshot_value.specs.declared.valuation.Valuation.{Valuation}
use Rattle.program_endings.specs.Blocks.{IsWritableBlock}

-- bounds within an amount of insurance can be added up
pub within_summable : (amount : ℕ) (worth : Worth) → amount ≤ 20000000000 → IsWithinAmount amount worth → IsSummable worth
within_summable amount (Bounds lo hi) most within = (omega (arith, most, within.0, within.1), omega (arith, most, within.1))
within_summable amount (Both lo hi min_lo min_hi test) most within = (
  omega (arith, most, within.0, within.1),
  omega (arith, most, within.1),
  omega (arith, most, within.2, within.3),
  omega (arith, most, within.3),
)
within_summable amount (Word word) most within = tt

-- twice what a policy may insure at most
most_low : (measure : Measure) → most_worth measure 10000000000 ≤ 20000000000
most_low Terminal = omega arith
most_low Mean = omega arith
most_low Deficiency = omega arith

-- the rows of a snapshot can be written
pub block_writable : (commands : List Command) (basis : List Dated) (on : ℤ) (measure : Measure) (position : ℕ) (valuation : Valuation)
    → IsSnapshot commands basis on measure position valuation → IsWritableBlock valuation
block_writable commands basis on measure position valuation snapshot = record {
  few = snapshot.rows.few;
  bounded = All-weaker (λ (row : Row). IsWithinAmount (most_worth measure 10000000000) row.worth) (λ (row : Row). IsSummable row.worth)
      (λ row within. within_summable (most_worth measure 10000000000) row.worth (most_low measure) within) valuation.rows snapshot.rows.within;
}
