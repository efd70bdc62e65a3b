-- The rows of the generator's policies
use Rattle.std.specs.Prelude.{ℕ, zero, suc, ◌+◌, ◌%◌, List, [], ◌∷◌, ◌++◌}
use Rattle.policy_types.specs.declared.command.Command.TheVariants.{Issue, Premium}
use Rattle.policy_types.specs.declared.script.Line.TheVariants.{Post}
use Rattle.command_csv.specs.declared.row.ClerkLine.{ClerkLine}
use Rattle.load_maker.specs.declared.generator.Drawn.{Drawn}
use Rattle.load_maker.specs.Generator.{policy_drawn, state_after}

-- the rows of policies 1 to n, which are assigned to the lanes in turn: a policy is issued, and its first premium is
-- paid on the same day
unfoldable pub generated_rows : (seed lanes n : ℕ) → List ClerkLine
generated_rows seed lanes zero = []
generated_rows seed lanes (suc n) =
    let lane : ℕ = 1 + n % lanes in
    let p : Drawn = policy_drawn (state_after seed n) in
    generated_rows seed lanes n
    ++ (record { clerk = lane; line = Post (Issue (suc n) p.issued p.plan p.age p.years p.amount p.premium) }
    ∷ record { clerk = lane; line = Post (Premium (suc n) p.issued p.premium) } ∷ [])
