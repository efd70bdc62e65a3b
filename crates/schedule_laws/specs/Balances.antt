-- How the four accounts are related to each other and to the book
use Rattle.std.specs.Prelude.{◌≡◌, ℕ, List, pos}
use Rattle.schedule_laws.specs.Names.{sum_by, Command, book, IsAccepted, Policy}
use Rattle.policy_types.specs.Accounts.{against, sum_of}
use Rattle.policy_machine.specs.Accounts.{ledger_of}

-- what is still to be paid out on all policies, in cents
abbrev pub outstanding_in : List Policy → ℕ
outstanding_in policies = sum_by (λ policy. policy.outstanding) policies

-- the four balances add up to 0, and payable is the outstanding sum with a minus sign
abbrev pub BalanceLaw : Type 0
BalanceLaw = (commands : List Command) → IsAccepted commands
    → (sum_of (ledger_of commands) ≡ pos 0) × ((ledger_of commands).payable ≡ against (outstanding_in (book commands)))
