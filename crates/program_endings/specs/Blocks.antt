-- Which valuations can be written
use Rattle.std.specs.Prelude.{◌≤◌, length}
use Rattle.policy_types.specs.Limits.{most_commands}
use Rattle.report_text.specs.Block.{AreSummable}
use Rattle.snapshot_value.specs.declared.valuation.Valuation.{Valuation}

-- the rows of a valuation can be summed and written
pub record IsWritableBlock (valuation : Valuation) : Type 0 where
  pub few : length valuation.rows ≤ most_commands
  pub bounded : AreSummable valuation.rows
