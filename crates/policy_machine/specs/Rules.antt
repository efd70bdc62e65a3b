-- The rules of a policy's life: for each command the checks in their order, and what the command changes
use Rattle.std.specs.Prelude.{ℕ, ◌+◌, ◌-◌, ◌*◌, ◌<◌, ◌≤◌, ◌↔◌, Bool, true, not, ◌&&◌, ◌||◌, ◌==◌, nat_lt, nat_le, int_lt, int_le, if◌then◌else◌, List, [], ◌∷◌, ℤ, pos, ◌+ℤ◌, ◌-ℤ◌, ◌≤ℤ◌, IsTrue, Some, None, Option, Ok, Err, Result}
use Rattle.policy_machine.specs.Names.{count_by, option_map_or, range_with_len, status_eq, Command, Issue, Premium, Alter, Lapse, Reinstate, Claim, Settle, Mature, MakePaidUp, Upgrade, Term, Whole, Endowment, Limited, Policy, Status, Refusal, Taken, Unknown, BeforeLast, WrongStatus, TermOver, NothingDue, TooEarly, GraceOver, NotInArrears, TooLate, WrongAmount, NotAReduction, NotMatured, OverSettled, IsIssue, IsCommandDay, Plan, anniversary_of}
use Rattle.policy_types.specs.declared.policy.Status.TheVariants.{InForce, Lapsed, Claimed, Matured, Expired, Settled, PaidUp}

-- the years of insurance, from the issue on
abbrev pub years_of : Policy → ℕ
years_of p = by_plan p.plan
  where
    by_plan : Plan → ℕ
    by_plan Term = p.years
    by_plan Whole = 131 - p.age
    by_plan Endowment = p.years
    by_plan Limited = 131 - p.age

-- the number of annual premiums
abbrev pub payments_of : Policy → ℕ
payments_of p = by_plan p.plan
  where
    by_plan : Plan → ℕ
    by_plan Term = p.years
    by_plan Whole = 131 - p.age
    by_plan Endowment = p.years
    by_plan Limited = p.years

-- the day on which the insurance ends
abbrev pub end_of : Policy → ℤ
end_of p = anniversary_of p.issued (years_of p)

-- a further premium falls due; none does once the policy is paid up
abbrev pub has_due : Policy → Bool
has_due p = not (status_eq.it p.status PaidUp) && nat_lt p.paid (payments_of p)

-- the day on which the next premium falls due, while one does
abbrev pub due_of : Policy → ℤ
due_of p = anniversary_of p.issued p.paid

-- the last of the 31 days of grace for it
abbrev pub grace_end_of : Policy → ℤ
grace_end_of p = due_of p +ℤ pos 31

-- the last day on which a lapsed policy can be reinstated, if its term doesn't end before
abbrev pub reinstatement_end_of : Policy → ℤ
reinstatement_end_of p = anniversary_of p.issued (p.paid + 3)

-- the number of unpaid premiums that have fallen due by a day
abbrev pub premiums_missed : Policy → ℤ → ℕ
premiums_missed p day =
    count_by (λ j. int_le (anniversary_of p.issued j) day) (range_with_len p.paid (payments_of p - p.paid))

-- a benefit has fallen due and isn't paid in full
abbrev pub awaits_settlement : Status → Bool
awaits_settlement Claimed = true
awaits_settlement Matured = true
awaits_settlement _ = not true

-- one check: whether it refuses, and with which reason
pub record Check : Type 0 where
  pub applies : Bool
  pub refusal : Refusal

abbrev pub refuse : Bool → Refusal → Check
refuse applies refusal = record { applies = applies; refusal = refusal }

-- the reason of the first check that refuses
abbrev pub first_refusal : List Check → Option Refusal
first_refusal [] = None
first_refusal (check ∷ checks) = if check.applies then Some check.refusal else first_refusal checks

abbrev pub day_before_last : Policy → ℤ → Check
day_before_last p day = refuse (int_lt day p.last) (BeforeLast p.last)

abbrev pub not_in_force : Policy → Check
not_in_force p = refuse (not (status_eq.it p.status InForce)) (WrongStatus p.status)

-- a death is covered only while the policy is in force or paid up
abbrev pub not_insured : Policy → Check
not_insured p =
    refuse (not (status_eq.it p.status InForce || status_eq.it p.status PaidUp)) (WrongStatus p.status)

abbrev pub term_over : Policy → ℤ → Check
term_over p day = refuse (int_le (end_of p) day) (TermOver (end_of p))

abbrev pub grace_over : Policy → ℤ → Check
grace_over p day = refuse (has_due p && int_lt (grace_end_of p) day) (GraceOver (due_of p))

abbrev pub nothing_due : Policy → Check
nothing_due p = refuse (p.paid == payments_of p) NothingDue

-- the checks of a command on an existing policy, in their order
abbrev pub checks_of : Policy → Command → List Check
checks_of p (Issue id day plan age years amount premium) = refuse true Taken ∷ []
checks_of p (Premium id day amount) =
    day_before_last p day ∷ not_in_force p ∷ term_over p day ∷ nothing_due p
    ∷ refuse (int_lt day (due_of p -ℤ pos 90)) (TooEarly (due_of p))
    ∷ grace_over p day
    ∷ refuse (not (amount == p.premium)) (WrongAmount p.premium) ∷ []
checks_of p (Alter id day amount premium) =
    day_before_last p day ∷ not_in_force p ∷ term_over p day ∷ grace_over p day
    ∷ refuse (nat_le p.amount amount) (NotAReduction p.amount) ∷ []
checks_of p (Lapse id day) =
    day_before_last p day ∷ not_in_force p ∷ nothing_due p
    ∷ refuse (int_le day (grace_end_of p)) (NotInArrears (due_of p)) ∷ []
checks_of p (Reinstate id day amount) =
    day_before_last p day
    ∷ refuse (not (status_eq.it p.status Lapsed)) (WrongStatus p.status)
    ∷ term_over p day
    ∷ refuse (int_lt (reinstatement_end_of p) day) (TooLate (reinstatement_end_of p))
    ∷ (let sum = premiums_missed p day * p.premium in refuse (not (amount == sum)) (WrongAmount sum)) ∷ []
checks_of p (Claim id day) =
    day_before_last p day ∷ not_insured p ∷ term_over p day ∷ grace_over p day ∷ []
checks_of p (Settle id day amount) =
    day_before_last p day
    ∷ refuse (not (awaits_settlement p.status)) (WrongStatus p.status)
    ∷ refuse (nat_lt p.outstanding amount) (OverSettled p.outstanding) ∷ []
checks_of p (Mature id day) =
    day_before_last p day ∷ not_insured p ∷ grace_over p day
    ∷ refuse (int_lt day (end_of p)) (NotMatured (end_of p)) ∷ []
checks_of p (MakePaidUp id day amount) =
    day_before_last p day ∷ not_in_force p ∷ term_over p day ∷ nothing_due p ∷ grace_over p day
    ∷ refuse (nat_le p.amount amount) (NotAReduction p.amount) ∷ []
-- an upgrade names no policy
checks_of p Upgrade = refuse true Unknown ∷ []

-- a policy at the end of its term, by its plan
abbrev pub matured : Plan → Policy → Policy
matured Term p = record p { status = Expired; outstanding = 0 }
matured _ p = record p { status = Matured; outstanding = p.amount }

-- what an accepted command makes of the policy; its day becomes the policy's last
abbrev pub changed : Policy → Command → Policy
changed p (Issue id day plan age years amount premium) = p
changed p (Premium id day amount) = record p { last = day; paid = p.paid + 1 }
changed p (Alter id day amount premium) = record p { last = day; amount = amount; premium = premium }
changed p (Lapse id day) = record p { last = day; status = Lapsed }
changed p (Reinstate id day amount) =
    record p { last = day; status = InForce; paid = p.paid + premiums_missed p day }
changed p (Claim id day) = record p { last = day; status = Claimed; outstanding = p.amount }
changed p (Settle id day amount) =
    record p { last = day; outstanding = p.outstanding - amount; status = if amount == p.outstanding then Settled else p.status }
changed p (Mature id day) = matured p.plan (record p { last = day })
changed p (MakePaidUp id day amount) = record p { last = day; status = PaidUp; amount = amount }
changed p Upgrade = p

-- a policy as it is issued
abbrev pub issued : ℕ → ℤ → Plan → ℕ → ℕ → ℕ → ℕ → Policy
issued id day plan age years amount premium = record {
  id = id;
  plan = plan;
  age = age;
  years = years;
  amount = amount;
  premium = premium;
  issued = day;
  last = day;
  paid = 0;
  status = InForce;
  outstanding = 0;
}

-- what a command makes of the policy that it names, or of none: the first refusal that applies, or the new policy
abbrev pub next : Option Policy → Command → Result Policy Refusal
next None (Issue id day plan age years amount premium) = Ok (issued id day plan age years amount premium)
next None _ = Err Unknown
next (Some p) command = option_map_or Err (first_refusal (checks_of p command)) (Ok (changed p command))

-- what holds of every policy of the books
pub record IsSound (p : Policy) : Type 0 where
  pub issue_in : IsIssue p.id p.issued p.plan p.age p.years p.amount p.premium
  pub paid_in : p.paid ≤ payments_of p
  pub last_after : p.issued ≤ℤ p.last
  pub last_in : IsCommandDay p.last
  pub outstanding_in : p.outstanding ≤ p.amount
  pub outstanding_when : (0 < p.outstanding) ↔ IsTrue (awaits_settlement p.status)
