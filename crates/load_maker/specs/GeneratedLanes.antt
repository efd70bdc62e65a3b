-- The lanes of the generator's policies
use Rattle.std.specs.Prelude.{◌≡◌, ℕ, ◌*◌, ◌≤◌, List, length}
use Rattle.std.specs.List.{AllByRecursion}
use Rattle.policy_types.specs.Valid.{IsValid}
use Rattle.policy_types.specs.declared.script.Line.{Line}
use Rattle.policy_types.specs.declared.script.Line.TheVariants.{Post}
use Rattle.policy_types.specs.declared.script.Lane.{Lane}
use Rattle.policy_types.specs.Lanes.{AreRising, lines_in, numbers_of}
use Rattle.command_csv.specs.Reads.{lanes_up_to}
use Rattle.load_maker.specs.GeneratedRows.{generated_rows}

-- the lanes of the rows of policies 1 to n
unfoldable pub generated_lanes : (seed lanes n : ℕ) → List Lane
generated_lanes seed lanes n = lanes_up_to lanes (generated_rows seed lanes n)

-- a posting of a valid command
abbrev pub IsValidPosting : Line → Type 0
IsValidPosting (Post command) = IsValid command
IsValidPosting _ = ⊥

-- what the run of the lanes relies on: no more lanes than asked for, with two lines for each policy
pub record AreDealt (most policies : ℕ) (lanes : List Lane) : Type 0 where
  pub rising : AreRising (numbers_of lanes)
  pub few : length lanes ≤ most
  pub lines : length (lines_in lanes) ≡ 2 * policies
  pub valid : AllByRecursion IsValidPosting (lines_in lanes)
