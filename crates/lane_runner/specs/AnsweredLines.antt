-- The lines of lanes with the turns that answer them, in the order of their first turns
use Rattle.std.specs.Prelude.{◌≡◌, ℕ, ◌==◌, List, ◌∷◌, map}
use Rattle.lane_runner.specs.Names.{AllByRecursion, AllZip, Contains, filter, flat_map, Entry, Line, Lane, AreRising, AnswersLine, Placed, turns_of}

-- a line of a lane, and the turns that answer it, each with its place in the history
pub record AnsweredLine : Type 0 where
  pub clerk : ℕ
  pub line : Line
  pub first : Placed
  pub rest : List Placed

abbrev pub turns_in : AnsweredLine → List Placed
turns_in answered = answered.first ∷ answered.rest

abbrev pub lines_by : ℕ → List AnsweredLine → List AnsweredLine
lines_by clerk answered = filter (λ (one : AnsweredLine). one.clerk == clerk) answered

-- The lanes' lines as the history answers them, one after the other in the order of their first turns. Each lane's
-- lines are in their order, and their turns put together are those of the lane's caller. The list `dry` has the pins
-- of the valuations that were refused memory.
pub record AreLinesOf (answered : List AnsweredLine) (history : List Entry) (lanes : List Lane) (callers dry : List ℕ)
    : Type 0 where
  pub rising : AreRising (map (λ (one : AnsweredLine). one.first.0) answered)
  pub clerks : AllByRecursion (λ (one : AnsweredLine). Contains (map (λ (lane : Lane). lane.number) lanes) one.clerk) answered
  pub turns : AllByRecursion (λ (one : AnsweredLine). AnswersLine dry one.line (turns_in one)) answered
  pub each : AllZip (λ (lane : Lane) (caller : ℕ). (map (λ (one : AnsweredLine). one.line) (lines_by lane.number answered) ≡ lane.lines)
      × (flat_map turns_in (lines_by lane.number answered) ≡ turns_of history caller)) lanes callers
