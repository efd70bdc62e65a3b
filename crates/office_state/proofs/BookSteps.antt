-- How many policies a list of commands issues
use Rattle.office_state.proofs.Names.{suc, ◌≤◌, List, [], ◌∷◌, length, Some, None, Option, arith, Command, issue_id}
use Rattle.std.specs.List.{cons_option, filter_map}

cons_one : {Y : Type 0} (o : Option Y) (ys : List Y) → length (cons_option o ys) ≤ suc (length ys)
cons_one (Some y) ys = omega arith
cons_one None ys = omega arith

-- there are no more issues than commands
pub length-issues : (commands : List Command) → length (filter_map issue_id commands) ≤ length commands
length-issues [] = omega arith
length-issues (command ∷ commands) =
    omega (arith, cons_one (issue_id command) (filter_map issue_id commands), length-issues commands)
