-- The lanes of a script that was read can be run
use Rattle.script_run.proofs.Names.{◌≡◌, ℕ, zero, suc, ◌+◌, ◌≤◌, List, [], ◌∷◌, length, Option, Some, None, refl, ap, arith, AllByRecursion, filter, Lane, IsScriptLine, Reads, is_valuation, most_script_bytes}
use Rattle.std.proofs.lemmas.List.Elements.{All-from_recursion}
use Rattle.csv.specs.Machine.{Read, next_record}
use Rattle.csv.specs.Reading.{Reached, default_config, records_from, records_next, strip_bom}
use Rattle.csv.specs.declared.parser.State.{State}
use Rattle.policy_types.specs.declared.script.Line.{Line}
use Rattle.policy_types.specs.declared.script.Line.TheVariants.{Post, Value, Trim}
use Rattle.command_csv.specs.Lanes.{AreLanesOf, IsLane}
use Rattle.command_csv.specs.Rows.{rows_of}
use Rattle.command_csv.proofs.Lanes.{lanes_whole}
use Rattle.command_csv.proofs.Records.{rows_few}
use Rattle.policy_types.specs.Lanes.{AreRising, lines_in, numbers_of}
use Rattle.lane_runner.specs.Lanes.{IsRightLane, IsRightLine, is_value}
use Rattle.program_endings.proofs.ListSteps.{all_and}
use Rattle.transcript_text.specs.Lanes.{AreScriptLanes}
use Rattle.csv.specs.declared.parser.State.TheVariants as st

-- the records of a text are reached
reached : (n : ℕ) (s : State) (xs : List ℕ)
    → (last : State) × ((left : List ℕ) × Reached default_config s xs (records_from default_config n s xs) last left)
unfolding records_from Reached
reached zero s xs = (s, (xs, (refl, refl)))
reached (suc n) s xs = by (next_record default_config s [] [] xs) refl (reached n)
  where
    by : (read : Option Read) → next_record default_config s [] [] xs ≡ read
        → ((t : State) (ys : List ℕ) → (last : State) × ((left : List ℕ) × Reached default_config t ys (records_from default_config n t ys) last left))
        → (last : State) × ((left : List ℕ) × Reached default_config s xs (records_next (records_from default_config n) read) last left)
    by None is more = (s, (xs, (refl, refl)))
    by (Some p) is more = let rest = more p.1 p.2 in (rest.0, (rest.1.0, (p, is, refl, rest.1.1)))

-- so there are no more of them than bytes
few_rows : (bytes : List ℕ) → length (rows_of bytes) ≤ length bytes
few_rows bytes =
    let all = reached (length (strip_bom bytes) + 1) st.StartRecord (strip_bom bytes) in
    rows_few bytes (rows_of bytes) all.0 all.1.0 all.1.1

-- numbers that rise up to eight are eight at most
few_from : (lane : Lane) (lanes : List Lane) → AreRising (numbers_of (lane ∷ lanes)) → AllByRecursion IsLane (lane ∷ lanes) → lane.number + length lanes ≤ 8
few_from lane [] rising each = omega (arith, each.0.clerk_in)
few_from lane (next ∷ lanes) rising each = omega (arith, rising.0, few_from next lanes rising.1 each.1)

few_lanes : (lanes : List Lane) → AreRising (numbers_of lanes) → AllByRecursion IsLane lanes → length lanes ≤ 8
few_lanes [] rising each = omega arith
few_lanes (lane ∷ lanes) rising each = omega (arith, each.0.clerk_in, few_from lane lanes rising each)

values_alike : (lines : List Line) → length (filter is_value lines) ≡ length (filter is_valuation lines)
values_alike [] = refl
values_alike (Post command ∷ lines) = values_alike lines
values_alike (Value on at workers ∷ lines) = ap suc (values_alike lines)
values_alike (Trim ∷ lines) = values_alike lines

right_line : (line : Line) → IsScriptLine line → IsRightLine line
right_line (Post command) right = right
right_line (Value on at workers) right = (right.0, right.2.0, right.2.1)
right_line Trim right = tt

right_lines : (lines : List Line) → AllByRecursion IsScriptLine lines → AllByRecursion IsRightLine lines
right_lines [] right = tt
right_lines (line ∷ lines) right = (right_line line right.0, right_lines lines right.1)

right_lanes : (lanes : List Lane) → AllByRecursion IsLane lanes → AllByRecursion IsRightLane lanes
right_lanes [] each = tt
right_lanes (lane ∷ lanes) each = (All-from_recursion IsRightLine lane.lines (right_lines lane.lines each.0.right), right_lanes lanes each.1)

script_lines : (lanes : List Lane) → AllByRecursion IsLane lanes → AllByRecursion IsScriptLine (lines_in lanes)
script_lines [] each = tt
script_lines (lane ∷ lanes) each = all_and IsScriptLine lane.lines (lines_in lanes) each.0.right (script_lines lanes each.1)

-- the lanes that a script says
pub script_lanes : (bytes : List ℕ) (lanes : List Lane) → Reads bytes lanes → length bytes ≤ most_script_bytes → AreScriptLanes lanes
script_lanes bytes lanes reads short = record {
  right = record {
    rising = are.rising;
    right = All-from_recursion IsRightLane lanes (right_lanes lanes are.each);
    few = few_lanes lanes are.rising are.each;
    lines = omega (arith, are.whole, few_rows bytes, short);
    values = omega (arith, values_alike (lines_in lanes), are.few);
  };
  lines = script_lines lanes are.each;
}
  where
    are : AreLanesOf (length (rows_of bytes)) lanes
    are = lanes_whole bytes lanes reads
