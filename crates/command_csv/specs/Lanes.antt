-- What is true of the lanes of any script
use Rattle.std.specs.Prelude.{◌≡◌, ℕ, ◌≤◌, List, length}
use Rattle.std.specs.Int.{IsInRange}
use Rattle.command_csv.specs.Names.{AllByRecursion, Lane}
use Rattle.policy_types.specs.Lanes.{AreRising, lines_in, numbers_of}
use Rattle.command_csv.specs.Reads.{IsScriptLine, last_lane, most_valuations, valuations_in}

-- a lane with at least one line, each of which a script may hold
pub record IsLane (lane : Lane) : Type 0 where
  pub clerk_in : IsInRange 1 last_lane lane.number
  pub some : 1 ≤ length lane.lines
  pub right : AllByRecursion IsScriptLine lane.lines

-- lanes whose numbers rise, so that no number occurs twice, with so many lines in all
pub record AreLanesOf (count : ℕ) (lanes : List Lane) : Type 0 where
  pub rising : AreRising (numbers_of lanes)
  pub each : AllByRecursion IsLane lanes
  pub whole : length (lines_in lanes) ≡ count
  pub few : valuations_in (lines_in lanes) ≤ most_valuations
