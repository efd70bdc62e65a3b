-- The rules before policies could be made paid up. They are kept for one law: old journals mean what they meant.
-- Their numbers, days and bookings are stated independently of the present rules: a change of those doesn't change
-- these.
use Rattle.std.specs.Prelude.{◌≡◌, ◌+◌, ◌-◌, ◌*◌, ◌&&◌, ◌==◌, true, not, nat_lt, nat_le, int_lt, int_le, if◌then◌else◌, List, [], ◌∷◌, ◌++◌, ℕ, ℤ, pos, ◌+ℤ◌, ◌-ℤ◌, Some, None, Option, Ok, Err, Result}
use Rattle.policy_machine.specs.Names.{count_by, filter, filter_map, fold, option_map_or, option_or, range_with_len, result_ok, result_err, status_eq, Command, Issue, Premium, Alter, Lapse, Reinstate, Claim, Settle, Mature, PaidUp, Upgrade, Term, Whole, Endowment, Limited, Policy, InForce, Lapsed, Claimed, Matured, Expired, Settled, Refusal, Taken, Unknown, BeforeLast, WrongStatus, TermOver, NothingDue, TooEarly, GraceOver, NotInArrears, TooLate, WrongAmount, NotAReduction, NotMatured, OverSettled, Booking, nothing_booked, premium_received, benefit_incurred, benefit_paid, added, id_of, Plan, anniversary_of}
use Rattle.policy_machine.specs.Rules.{Check, refuse, first_refusal, awaits_settlement}
use Rattle.policy_machine.specs.Book.{issue_id}

-- the commands that existed then
abbrev pub IsOldCommand : Command → Type 0
IsOldCommand (PaidUp id day amount) = ⊥
IsOldCommand Upgrade = ⊥
IsOldCommand _ = Unit {0}

-- years of insurance, and annual premiums
abbrev pub old_years_of : Policy → ℕ
old_years_of p = by_plan p.plan
  where
    by_plan : Plan → ℕ
    by_plan Term = p.years
    by_plan Whole = 131 - p.age
    by_plan Endowment = p.years
    by_plan Limited = 131 - p.age

abbrev pub old_payments_of : Policy → ℕ
old_payments_of p = by_plan p.plan
  where
    by_plan : Plan → ℕ
    by_plan Term = p.years
    by_plan Whole = 131 - p.age
    by_plan Endowment = p.years
    by_plan Limited = p.years

abbrev pub old_end_of : Policy → ℤ
old_end_of p = anniversary_of p.issued (old_years_of p)

abbrev pub old_due_of : Policy → ℤ
old_due_of p = anniversary_of p.issued p.paid

abbrev pub old_grace_end_of : Policy → ℤ
old_grace_end_of p = old_due_of p +ℤ pos 31

abbrev pub old_reinstatement_end_of : Policy → ℤ
old_reinstatement_end_of p = anniversary_of p.issued (p.paid + 3)

abbrev pub old_missed : Policy → ℤ → ℕ
old_missed p day =
    count_by (λ j. int_le (anniversary_of p.issued j) day) (range_with_len p.paid (old_payments_of p - p.paid))

abbrev pub old_day_before_last : Policy → ℤ → Check
old_day_before_last p day = refuse (int_lt day p.last) (BeforeLast p.last)

abbrev pub old_not_in_force : Policy → Check
old_not_in_force p = refuse (not (status_eq.it p.status InForce)) (WrongStatus p.status)

abbrev pub old_term_over : Policy → ℤ → Check
old_term_over p day = refuse (int_le (old_end_of p) day) (TermOver (old_end_of p))

abbrev pub old_nothing_due : Policy → Check
old_nothing_due p = refuse (p.paid == old_payments_of p) NothingDue

abbrev pub old_grace_over : Policy → ℤ → Check
old_grace_over p day =
    refuse (nat_lt p.paid (old_payments_of p) && int_lt (old_grace_end_of p) day) (GraceOver (old_due_of p))

-- the checks of a command by the earlier rules, in their order
abbrev pub old_checks : Policy → Command → List Check
old_checks p (Issue id day plan age years amount premium) = refuse true Taken ∷ []
old_checks p (Premium id day amount) =
    old_day_before_last p day ∷ old_not_in_force p ∷ old_term_over p day ∷ old_nothing_due p
    ∷ refuse (int_lt day (old_due_of p -ℤ pos 90)) (TooEarly (old_due_of p))
    ∷ old_grace_over p day
    ∷ refuse (not (amount == p.premium)) (WrongAmount p.premium) ∷ []
old_checks p (Alter id day amount premium) =
    old_day_before_last p day ∷ old_not_in_force p ∷ old_term_over p day ∷ old_grace_over p day
    ∷ refuse (nat_le p.amount amount) (NotAReduction p.amount) ∷ []
old_checks p (Lapse id day) =
    old_day_before_last p day ∷ old_not_in_force p ∷ old_nothing_due p
    ∷ refuse (int_le day (old_grace_end_of p)) (NotInArrears (old_due_of p)) ∷ []
old_checks p (Reinstate id day amount) =
    old_day_before_last p day
    ∷ refuse (not (status_eq.it p.status Lapsed)) (WrongStatus p.status)
    ∷ old_term_over p day
    ∷ refuse (int_lt (old_reinstatement_end_of p) day) (TooLate (old_reinstatement_end_of p))
    ∷ refuse (not (amount == old_missed p day * p.premium)) (WrongAmount (old_missed p day * p.premium)) ∷ []
old_checks p (Claim id day) =
    old_day_before_last p day ∷ old_not_in_force p ∷ old_term_over p day ∷ old_grace_over p day ∷ []
old_checks p (Settle id day amount) =
    old_day_before_last p day
    ∷ refuse (not (awaits_settlement p.status)) (WrongStatus p.status)
    ∷ refuse (nat_lt p.outstanding amount) (OverSettled p.outstanding) ∷ []
old_checks p (Mature id day) =
    old_day_before_last p day ∷ old_not_in_force p ∷ old_grace_over p day
    ∷ refuse (int_lt day (old_end_of p)) (NotMatured (old_end_of p)) ∷ []
old_checks p _ = []

abbrev pub old_matured : Plan → Policy → Policy
old_matured Term p = record p { status = Expired; outstanding = 0 }
old_matured _ p = record p { status = Matured; outstanding = p.amount }

-- what an accepted command made of the policy
abbrev pub old_changed : Policy → Command → Policy
old_changed p (Premium id day amount) = record p { last = day; paid = p.paid + 1 }
old_changed p (Alter id day amount premium) = record p { last = day; amount = amount; premium = premium }
old_changed p (Lapse id day) = record p { last = day; status = Lapsed }
old_changed p (Reinstate id day amount) = record p { last = day; status = InForce; paid = p.paid + old_missed p day }
old_changed p (Claim id day) = record p { last = day; status = Claimed; outstanding = p.amount }
old_changed p (Settle id day amount) =
    record p { last = day; outstanding = p.outstanding - amount; status = if amount == p.outstanding then Settled else p.status }
old_changed p (Mature id day) = old_matured p.plan (record p { last = day })
old_changed p _ = p

abbrev pub old_next : Option Policy → Command → Result Policy Refusal
old_next None (Issue number day by_plan at_age for_years sum price) = Ok (record {
  id = number;
  plan = by_plan;
  age = at_age;
  years = for_years;
  amount = sum;
  premium = price;
  issued = day;
  last = day;
  paid = 0;
  status = InForce;
  outstanding = 0;
})
old_next None _ = Err Unknown
old_next (Some p) command = option_map_or Err (first_refusal (old_checks p command)) (Ok (old_changed p command))

abbrev pub old_policy_of : List Command → ℕ → Option Policy
old_policy_of commands id =
    fold (λ policy command. option_or (result_ok (old_next policy command)) policy) None
    (filter (λ command. id_of command == id) commands)

abbrev pub old_book : List Command → List Policy
old_book commands = filter_map (old_policy_of commands) (filter_map issue_id commands)

abbrev pub old_refusal : List Command → Command → Option Refusal
old_refusal before command = result_err (old_next (old_policy_of before (id_of command)) command)

abbrev pub WereAcceptedAfter : List Command → List Command → Type 0
WereAcceptedAfter before [] = Unit {0}
WereAcceptedAfter before (command ∷ rest) = (old_refusal before command ≡ None) × WereAcceptedAfter (before ++ command ∷ []) rest

abbrev pub WereAccepted : List Command → Type 0
WereAccepted commands = WereAcceptedAfter [] commands

-- what a command booked that left this policy, or that left none
abbrev pub old_booked : Option Policy → Command → Booking
old_booked (Some after) (Premium id day amount) = premium_received amount
old_booked (Some after) (Reinstate id day amount) = premium_received amount
old_booked (Some after) (Claim id day) = benefit_incurred after.amount
old_booked (Some after) (Settle id day amount) = benefit_paid amount
old_booked (Some after) (Mature id day) =
    if status_eq.it after.status Matured then benefit_incurred after.amount else nothing_booked
old_booked _ _ = nothing_booked

abbrev pub old_bookings_after : List Command → List Command → List Booking
old_bookings_after before [] = []
old_bookings_after before (command ∷ rest) =
    old_booked (old_policy_of (before ++ command ∷ []) (id_of command)) command ∷ old_bookings_after (before ++ command ∷ []) rest

abbrev pub old_ledger : List Command → Booking
old_ledger commands = fold added nothing_booked (old_bookings_after [] commands)
