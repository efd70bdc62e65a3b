-- Worked cases of alterations. In each case of a refusal, reasons that come later in the order apply as well
use Rattle.std.specs.Prelude.{[], ◌∷◌, pos}
use Rattle.policy_machine.specs.Names.{Premium, Alter, Endowment, InForce, Lapsed, Unknown, BeforeLast, WrongStatus, TermOver, GraceOver, WrongAmount, NotAReduction}
use Rattle.policy_machine.specs.Worked.Cases.{Accepts, Refuses, LeavePolicies, policy_issue, premium_on, unpaid, paid_once, paid_up, lapsed_once}

-- there is no policy, or one of another number
abbrev pub AlterUnknown : Type 0
AlterUnknown = Refuses [] (Alter 7001 (pos 18262) 50000 20000) Unknown × Refuses unpaid (Alter 7002 (pos 18262) 50000 20000) Unknown

-- the day before the lapse, although the policy has lapsed
abbrev pub AlterBeforeLast : Type 0
AlterBeforeLast = Refuses lapsed_once (Alter 7001 (pos 18659) 50000 20000) (BeforeLast (pos 18660))

-- a lapsed policy on the day its term ends
abbrev pub AlterWrongStatus : Type 0
AlterWrongStatus = Refuses lapsed_once (Alter 7001 (pos 19358) 50000 20000) (WrongStatus Lapsed)

-- the term is over on 2023-01-01, although the grace of the second premium is over too; if all premiums are paid, the
-- policy may be altered on the day before
abbrev pub AlterTermOver : Type 0
AlterTermOver = Refuses paid_once (Alter 7001 (pos 19358) 50000 20000) (TermOver (pos 19358))
    × Accepts paid_up (Alter 7001 (pos 19357) 50000 20000)

-- the days of grace end on 2021-02-01; on the next day the alteration is refused for them, although the amount isn't
-- reduced
abbrev pub AlterGraceOver : Type 0
AlterGraceOver = Accepts paid_once (Alter 7001 (pos 18659) 50000 20000)
    × Refuses paid_once (Alter 7001 (pos 18660) 100000 20000) (GraceOver (pos 18628))

-- the same amount, and a cent less
abbrev pub AlterNotAReduction : Type 0
AlterNotAReduction = Refuses paid_once (Alter 7001 (pos 18628) 100000 20000) (NotAReduction 100000)
    × Accepts paid_once (Alter 7001 (pos 18628) 99999 50000)

-- reduced to 500.00 with a premium of 200.00 on 2020-06-01; 200.00 is then the right premium
abbrev pub Altered : Type 0
Altered =
    let altered = policy_issue ∷ premium_on (pos 18262) ∷ Alter 7001 (pos 18414) 50000 20000 ∷ [] in
    LeavePolicies altered
    (record {
      id = 7001;
      plan = Endowment;
      age = 0;
      years = 3;
      amount = 50000;
      premium = 20000;
      issued = pos 18262;
      last = pos 18414;
      paid = 1;
      status = InForce;
      outstanding = 0;
    } ∷ [])
    × Refuses altered (premium_on (pos 18628)) (WrongAmount 20000)
    × Accepts altered (Premium 7001 (pos 18628) 20000)
