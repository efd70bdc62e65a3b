-- What single functions draw, add and write
use Rattle.std.specs.Prelude.{ℕ, ◌+◌, ◌/◌, ◌%◌, ◌==◌, if◌then◌else◌, List, [], ◌∷◌, decimal}
use Rattle.policy_types.specs.declared.command.Command.TheVariants.{Issue, Premium}
use Rattle.policy_types.specs.declared.command.Plan.{Plan}
use Rattle.policy_types.specs.declared.command.Plan.TheVariants.{Term, Whole, Endowment, Limited}
use Rattle.policy_types.specs.declared.script.Line.{Line}
use Rattle.policy_types.specs.declared.script.Line.TheVariants.{Post}
use Rattle.text_lines.specs.Lines.{line_of}
use Rattle.command_csv.specs.Spelling.{line_fields}
use Rattle.command_csv.specs.declared.row.ClerkLine.{ClerkLine}
use Rattle.load_maker.specs.declared.generator.Drawn.{Drawn}

-- the draw below a bound, when the number was renewed to x
abbrev pub drawn_below : ℕ → ℕ → ℕ
drawn_below bound x = x / 256 % bound

-- the plan of a draw
abbrev pub plan_drawn : ℕ → Plan
plan_drawn d = if d == 0 then Term else if d == 1 then Whole else if d == 2 then Endowment else Limited

-- the years of a draw; whole life has none
abbrev pub years_drawn : Plan → ℕ → ℕ
years_drawn plan d = elim plan [ Whole ↦ 0 | _ ↦ 2 + d ]

-- the line that issues a policy
abbrev pub drawn_issue : ℕ → Drawn → Line
drawn_issue id p = Post (Issue id p.issued p.plan p.age p.years p.amount p.premium)

-- the line of its first premium
abbrev pub drawn_premium : ℕ → Drawn → Line
drawn_premium id p = Post (Premium id p.issued p.premium)

-- the rows of a policy
abbrev pub policy_rows : (lane id : ℕ) → Drawn → List ClerkLine
policy_rows lane id p =
    record { clerk = lane; line = drawn_issue id p } ∷ record { clerk = lane; line = drawn_premium id p } ∷ []

-- a row's text
abbrev pub script_row_text : ClerkLine → List ℕ
script_row_text row = line_of (decimal row.clerk) (line_fields row.line)
