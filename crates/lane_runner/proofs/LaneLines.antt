-- The lines of lanes, lane by lane beside their callers
use Rattle.std.specs.Prelude.{◌≡◌, ℕ, List, map}
use Rattle.std.specs.List.{AllZip, flat_map}
use Rattle.policy_types.specs.declared.entry.Entry.{Entry}
use Rattle.policy_types.specs.declared.script.Lane.{Lane}
use Rattle.policy_machine.specs.Merge.{turns_of}
use Rattle.lane_runner.specs.AnsweredLines.{AnsweredLine, lines_by, turns_in}

-- each clerk's lines are those of its lane, and their turns put together are those of the lane's caller
abbrev pub AreOfLanes : List AnsweredLine → List Entry → List Lane → List ℕ → Type 0
AreOfLanes answered history lanes callers =
    AllZip (λ (lane : Lane) (caller : ℕ). (map (λ (one : AnsweredLine). one.line) (lines_by lane.number answered) ≡ lane.lines)
    × (flat_map turns_in (lines_by lane.number answered) ≡ turns_of history caller)) lanes callers
