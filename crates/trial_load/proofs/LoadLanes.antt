-- The generated lanes can be run, and what is written of a generated script
use Rattle.trial_load.proofs.Names.{◌≡◌, ℕ, ◌≤◌, List, [], ◌∷◌, length, Result, Ok, Err, Vec, Global, refl, sym, subst, arith, IfOk, AllByRecursion, filter, All-from_recursion, Line, Post, Value, Trim, Lane, lines_in, AreDealt, IsValidPosting, Ending, Done, WriteFault, NoMemory, Stream, WroteAll, all_has, has_flat_map, of_all, AreLoadLanes}
use Rattle.outside_io.specs.Streams.{AppendsPart}
use Rattle.memory_requests.specs.declared.evidence.NoMemory.{NoMemory as Refusal}
use Rattle.command_csv.specs.Reads.{IsScriptLine}
use Rattle.lane_runner.specs.Lanes.{IsRightLane, IsRightLine, is_value}
use Rattle.load_maker.specs.GeneratedScript.{generated_text}
use Rattle.program_endings.specs.Texts.{EndsText}
use Rattle.trial_load.specs.Generating.{EndsGenerate}

right_line : (line : Line) → IsValidPosting line → IsRightLine line
right_line (Post command) posting = posting
right_line (Value on at workers) posting = absurd posting
right_line Trim posting = absurd posting

script_line : (line : Line) → IsValidPosting line → IsScriptLine line
script_line (Post command) posting = posting
script_line (Value on at workers) posting = absurd posting
script_line Trim posting = absurd posting

no_values : (lines : List Line) → AllByRecursion IsValidPosting lines → filter is_value lines ≡ []
no_values [] postings = refl
no_values (Post command ∷ lines) postings = no_values lines postings.1
no_values (Value on at workers ∷ lines) postings = absurd postings.0
no_values (Trim ∷ lines) postings = absurd postings.0

-- lanes that were dealt out are those of a load
pub load_lanes : (most policies : ℕ) (lanes : List Lane) → AreDealt most policies lanes → most ≤ 8 → policies ≤ 100000 → AreLoadLanes lanes
load_lanes most policies lanes dealt few_lanes few = record {
  script = record {
    right = record {
      rising = dealt.rising;
      right = All-from_recursion IsRightLane lanes (all_has IsRightLane lanes (λ lane has.
          All-from_recursion IsRightLine lane.lines (all_has IsRightLine lane.lines (λ line there.
          right_line line (of_all IsValidPosting (lines_in lanes) line dealt.valid (has_flat_map (λ (lane : Lane). lane.lines) lanes lane line has there))))));
      few = omega (arith, dealt.few);
      lines = omega (arith, dealt.lines);
      values = subst (λ (ls : List Line). length ls ≤ 16) (sym (no_values (lines_in lanes) dealt.valid)) (omega arith);
    };
    lines = all_has IsScriptLine (lines_in lanes) (λ line has. script_line line (of_all IsValidPosting (lines_in lanes) line dealt.valid has));
  };
  postings = dealt.valid;
}

-- a text that was made is written, or there was no memory for it
pub ends_generated : (seed count lanes : ℕ) (text : Result (Vec ℕ Global) Refusal) (output : Stream) (ending : Ending)
    → IfOk text (λ (made : Vec ℕ Global). made.items ≡ generated_text seed lanes count) → EndsText text output ending
    → EndsGenerate seed count lanes output ending
ends_generated seed count lanes (Ok text) output Done is ends = subst (WroteAll output) is ends
ends_generated seed count lanes (Ok text) output WriteFault is ends = (ends.0, subst (AppendsPart output.before output.after) is ends.1)
ends_generated seed count lanes (Err lack) output (NoMemory other_lack) is ends = ends
ends_generated seed count lanes (Ok text) output _ is ends = absurd ends
ends_generated seed count lanes (Err lack) output _ is ends = absurd ends
