-- Worked cases of the end of a term. Where a refusal is due, reasons that come after it in order apply as well
use Rattle.std.specs.Prelude.{[], ◌∷◌, pos}
use Rattle.policy_machine.specs.Names.{Issue, Settle, Mature, Term, Whole, Lapsed, Matured, Expired, Unknown, BeforeLast, WrongStatus, GraceOver, NotMatured, OverSettled}
use Rattle.policy_machine.specs.Worked.Cases.{Accepts, Refuses, LeavePolicies, policy_issue, policy_with, premium_on, paid_once, paid_up, lapsed_once}

-- there is no policy, or one of another number
abbrev pub MatureUnknown : Type 0
MatureUnknown = Refuses [] (Mature 7001 (pos 19358)) Unknown × Refuses paid_up (Mature 7002 (pos 19358)) Unknown

-- the day before the lapse, though the policy has lapsed
abbrev pub MatureBeforeLast : Type 0
MatureBeforeLast = Refuses lapsed_once (Mature 7001 (pos 18659)) (BeforeLast (pos 18660))

-- a lapsed policy, though the grace of its second premium is over
abbrev pub MatureWrongStatus : Type 0
MatureWrongStatus = Refuses lapsed_once (Mature 7001 (pos 19358)) (WrongStatus Lapsed)

-- the second premium is out of its days of grace on 2021-02-02, before the term ends and when it has
abbrev pub MatureGraceOver : Type 0
MatureGraceOver = Refuses paid_once (Mature 7001 (pos 18660)) (GraceOver (pos 18628))
    × Refuses paid_once (Mature 7001 (pos 19358)) (GraceOver (pos 18628))

-- the term ends on 2023-01-01
abbrev pub MatureNotMatured : Type 0
MatureNotMatured = Refuses paid_up (Mature 7001 (pos 19357)) (NotMatured (pos 19358))
    × Accepts paid_up (Mature 7001 (pos 19358))

-- the endowment matures, and its amount falls due
abbrev pub MaturedAtTerm : Type 0
MaturedAtTerm = LeavePolicies
    (policy_issue ∷ premium_on (pos 18262) ∷ premium_on (pos 18628) ∷ premium_on (pos 18993) ∷ Mature 7001 (pos 19389) ∷ [])
    (policy_with (pos 19389) 3 Matured 100000 ∷ [])

-- what has matured is settled in part, and then in full
abbrev pub MaturedAndSettled : Type 0
MaturedAndSettled =
    let matured = policy_issue ∷ premium_on (pos 18262) ∷ premium_on (pos 18628) ∷ premium_on (pos 18993) ∷ Mature 7001 (pos 19358) ∷ [] in
    LeavePolicies
    (policy_issue ∷ premium_on (pos 18262) ∷ premium_on (pos 18628) ∷ premium_on (pos 18993)
    ∷ Mature 7001 (pos 19358) ∷ Settle 7001 (pos 19359) 40000 ∷ [])
    (policy_with (pos 19359) 3 Matured 60000 ∷ [])
    × Refuses matured (Settle 7001 (pos 19359) 100001) (OverSettled 100000)
    × Accepts matured (Settle 7001 (pos 19359) 100000)

-- term insurance of the same years expires, and nothing falls due
abbrev pub ExpiredAtTerm : Type 0
ExpiredAtTerm =
    let paid = Issue 7001 (pos 18262) Term 0 2 100000 40000 ∷ premium_on (pos 18262) ∷ premium_on (pos 18628) ∷ Mature 7001 (pos 18993) ∷ [] in
    LeavePolicies paid
    (record {
      id = 7001;
      plan = Term;
      age = 0;
      years = 2;
      amount = 100000;
      premium = 40000;
      issued = pos 18262;
      last = pos 18993;
      paid = 2;
      status = Expired;
      outstanding = 0;
    } ∷ [])
    × Refuses paid (Settle 7001 (pos 18993) 1) (WrongStatus Expired)

-- whole life issued at age 129 matures after two years
abbrev pub WholeLifeMatured : Type 0
WholeLifeMatured =
    LeavePolicies
    (Issue 7001 (pos 18262) Whole 129 0 100000 40000 ∷ premium_on (pos 18262) ∷ premium_on (pos 18628) ∷ Mature 7001 (pos 18993) ∷ [])
    (record {
      id = 7001;
      plan = Whole;
      age = 129;
      years = 0;
      amount = 100000;
      premium = 40000;
      issued = pos 18262;
      last = pos 18993;
      paid = 2;
      status = Matured;
      outstanding = 100000;
    } ∷ [])
