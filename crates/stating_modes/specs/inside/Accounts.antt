-- The parts of a policy's account
use Rattle.std.specs.Prelude.{ℕ, ◌==◌, List, [], ◌∷◌, codes, decimal, Option, unwrap_or, option_map}
use Rattle.stating_modes.specs.Names.{enumerate_from, filter, Command, line_of, statement_text, id_of}
use Rattle.policy_types.specs.declared.policy.Policy.{Policy}

-- the commands that name a policy's number, each with its own number among all of them, counted from 1
abbrev pub policy_entries : List Command → ℕ → List (ℕ × Command)
policy_entries commands id = filter (λ (entry : ℕ × Command). id_of entry.1 == id) (enumerate_from 1 commands)

-- the entries of a policy, and the policy as they left it, if there is one
abbrev pub account_text : List (ℕ × Command) → ℕ → Option Policy → List ℕ
account_text entries id policy = unwrap_or (option_map (statement_text entries) policy) (line_of (codes "unknown") (decimal id ∷ []))
