-- The texts of statements and balances
use Rattle.std.specs.Prelude.{ℕ, List, [], ◌∷◌, ◌++◌, codes, decimal}
use Rattle.statements.specs.Names.{flat_map, Command, day_text, kind_word, status_word, entry_fields, insurance_fields, line_of}
use Rattle.policy_types.specs.declared.policy.Policy.{Policy}
use Rattle.policy_types.specs.Accounts.{Booking}
use Rattle.money_core.specs.CentsText.{cents_text, signed_cents_text}

-- the line of an accepted command, with its number among all of them
unfoldable pub entry_text : ℕ → Command → List ℕ
entry_text position command =
    line_of (codes "entry") (decimal position ∷ kind_word command ∷ entry_fields command)

-- the line of a policy: its terms, its day of issue, the number of premiums paid, and what is still to be paid out
unfoldable pub policy_text : Policy → List ℕ
policy_text p =
    line_of (codes "policy")
    (decimal p.id ∷ status_word p.status ∷ insurance_fields p.plan p.age p.years p.amount p.premium
    ++ day_text p.issued ∷ decimal p.paid ∷ cents_text p.outstanding ∷ [])

-- a policy's commands, in order, and then the policy as they left it
abbrev pub statement_text : List (ℕ × Command) → Policy → List ℕ
statement_text entries policy =
    flat_map (λ (entry : ℕ × Command). entry_text entry.0 entry.1) entries ++ policy_text policy

-- a line for each of the four balances, and one for how many commands were accepted
unfoldable pub balance_text : Booking → ℕ → List ℕ
balance_text ledger count =
    line_of (codes "balance") (codes "cash" ∷ signed_cents_text ledger.cash ∷ [])
    ++ line_of (codes "balance") (codes "premiums" ∷ signed_cents_text ledger.premiums ∷ [])
    ++ line_of (codes "balance") (codes "incurred" ∷ signed_cents_text ledger.incurred ∷ [])
    ++ line_of (codes "balance") (codes "payable" ∷ signed_cents_text ledger.payable ∷ [])
    ++ line_of (codes "count") (decimal count ∷ [])
