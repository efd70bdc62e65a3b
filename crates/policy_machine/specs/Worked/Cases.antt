-- What the worked cases share. The policy is an endowment of 1000.00 for three years at age 0, with an annual premium
-- of 400.00, issued on 2020-01-01 (day 18262) as number 7001; its anniversaries are the days 18628, 18993 and 19358
use Rattle.std.specs.Prelude.{◌≡◌, ℕ, List, [], ◌∷◌, ℤ, pos, Some, None}
use Rattle.policy_machine.specs.Worked.Names.{Command, Issue, Premium, Lapse, Claim, Endowment, Term, Policy, Status, InForce, Refusal, Call, Post, Reply, Entry, book, Opening, refusal_due}

-- after these commands this one is accepted
abbrev pub Accepts : List Command → Command → Type 0
Accepts commands command = refusal_due commands command ≡ None

-- after these commands this one is refused, for this reason
abbrev pub Refuses : List Command → Command → Refusal → Type 0
Refuses commands command refusal = refusal_due commands command ≡ Some refusal

-- the policies that the commands leave
abbrev pub LeavePolicies : List Command → List Policy → Type 0
LeavePolicies commands policies = book commands ≡ policies

abbrev pub policy_issue : Command
policy_issue = Issue 7001 (pos 18262) Endowment 0 3 100000 40000

-- the policy with its last day, its premiums paid, its status and what is outstanding
abbrev pub policy_with : ℤ → ℕ → Status → ℕ → Policy
policy_with last paid status outstanding = record {
  id = 7001;
  plan = Endowment;
  age = 0;
  years = 3;
  amount = 100000;
  premium = 40000;
  issued = pos 18262;
  last = last;
  paid = paid;
  status = status;
  outstanding = outstanding;
}

-- a term policy of 50,000.00 for twenty years at age 30, with an annual premium of 200.00, as it is issued on the same day
abbrev pub term_policy : ℕ → Policy
term_policy id = record {
  id = id;
  plan = Term;
  age = 30;
  years = 20;
  amount = 5000000;
  premium = 20000;
  issued = pos 18262;
  last = pos 18262;
  paid = 0;
  status = InForce;
  outstanding = 0;
}

-- the right premium, on a day
abbrev pub premium_on : ℤ → Command
premium_on day = Premium 7001 day 40000

-- the policy, and nothing paid
abbrev pub unpaid : List Command
unpaid = policy_issue ∷ []

-- its first premium is paid
abbrev pub paid_once : List Command
paid_once = policy_issue ∷ premium_on (pos 18262) ∷ []

-- all three premiums are paid, each on the day it falls due
abbrev pub paid_up : List Command
paid_up = policy_issue ∷ premium_on (pos 18262) ∷ premium_on (pos 18628) ∷ premium_on (pos 18993) ∷ []

-- lapsed on 2021-02-02 for the second premium
abbrev pub lapsed_once : List Command
lapsed_once = policy_issue ∷ premium_on (pos 18262) ∷ Lapse 7001 (pos 18660) ∷ []

-- a death on 2020-06-01
abbrev pub claimed : List Command
claimed = policy_issue ∷ premium_on (pos 18262) ∷ Claim 7001 (pos 18414) ∷ []

-- an office with no commands
abbrev pub empty_office : Opening
empty_office = record { commands = []; faults = 0 }

abbrev pub turn : ℕ → Call → Reply → Entry
turn caller call reply = record { caller = caller; call = call; reply = reply }

-- the first caller posts
abbrev pub posting : Command → Reply → Entry
posting command reply = turn 1 (Post command) reply
