-- The lanes that may be run
use Rattle.std.specs.Prelude.{◌≤◌, ◌^◌, Bool, true, false, List, All, length}
use Rattle.lane_runner.specs.Names.{filter, Line, Post, Value, Trim, Lane, AreRising, lines_in, numbers_of, IsCommandDay, IsValid}

-- a posting is of a valid command, and a valuation is on a day of commands and has 1 to 64 workers
abbrev pub IsRightLine : Line → Type 0
IsRightLine (Post command) = IsValid command
IsRightLine (Value on at workers) = IsCommandDay on × (1 ≤ workers) × (workers ≤ 64)
IsRightLine Trim = Unit {0}

abbrev pub IsRightLane : Lane → Type 0
IsRightLane lane = All IsRightLine lane.lines

abbrev pub is_value : Line → Bool
is_value (Value on at workers) = true
is_value _ = false

-- At most eight lanes, whose numbers rise, with valid lines; at most 2^24 lines in all, of which sixteen may be
-- valuations
pub record AreRightLanes (lanes : List Lane) : Type 0 where
  pub rising : AreRising (numbers_of lanes)
  pub right : All IsRightLane lanes
  pub few : length lanes ≤ 8
  pub lines : length (lines_in lanes) ≤ 2 ^ 24
  pub values : length (filter is_value (lines_in lanes)) ≤ 16
