-- What `state` writes of the accepted commands of a journal
use Rattle.std.specs.Prelude.{ℕ, ◌==◌, List, [], ◌∷◌, ◌++◌, codes, decimal, unwrap_or, option_map}
use Rattle.stating_modes.specs.Names.{enumerate_from, filter, flat_map, Command, line_of, balance_text, policy_text, statement_text, id_of, policy_of}
use Rattle.policy_types.specs.Accounts.{Booking}
use Rattle.policy_types.specs.declared.policy.Policy.{Policy}

-- all policies in order of issue, the four balances, and the number of commands
abbrev pub books_text : List Policy → Booking → ℕ → List ℕ
books_text policies ledger count = flat_map policy_text policies ++ balance_text ledger count

-- the commands that name a policy's number, each with its own number among all of them, counted from 1, and the
-- policy as they left it; or that no policy has the number
abbrev pub policy_account : ℕ → List Command → List ℕ
policy_account id commands =
    unwrap_or
    (option_map (statement_text (filter (λ (entry : ℕ × Command). id_of entry.1 == id) (enumerate_from 1 commands))) (policy_of commands id))
    (line_of (codes "unknown") (decimal id ∷ []))
