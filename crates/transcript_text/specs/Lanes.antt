-- The lanes that are run
use Rattle.std.specs.Prelude.{List}
use Rattle.std.specs.List.{AllByRecursion}
use Rattle.policy_types.specs.declared.script.Lane.{Lane}
use Rattle.command_csv.specs.Reads.{IsScriptLine}
use Rattle.lane_runner.specs.Lanes.{AreRightLanes}
use Rattle.policy_types.specs.Lanes.{lines_in}

-- the lanes of a script can be run, and its lines are those of a script
pub record AreScriptLanes (lanes : List Lane) : Type 0 where
  pub right : AreRightLanes lanes
  pub lines : AllByRecursion IsScriptLine (lines_in lanes)
