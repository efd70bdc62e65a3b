-- Worked cases of issues
use Rattle.std.specs.Prelude.{[], ◌∷◌, pos}
use Rattle.policy_machine.specs.Worked.Names.{Issue, Term, Whole, Endowment, Limited, InForce, Taken, Accepted, Refused, IsLegalAfter}
use Rattle.policy_machine.specs.Worked.Cases.{LeavePolicies, Refuses, policy_issue, term_policy, claimed, empty_office, posting}

-- the policy is accepted as number 1 of the journal, and a second time refused as taken
abbrev pub IssuedTwice : Type 0
IssuedTwice = IsLegalAfter empty_office [] (posting policy_issue (Accepted 1) ∷ posting policy_issue (Refused Taken) ∷ [])

-- the number stays taken after a claim, also for another plan on an earlier day
abbrev pub TakenForGood : Type 0
TakenForGood = Refuses claimed (Issue 7001 (pos 18261) Term 30 20 1 1) Taken

-- a policy of each plan as it is issued, in the order of the issues and not of the numbers
abbrev pub FourPlans : Type 0
FourPlans = LeavePolicies
    (Issue 7004 (pos 18262) Term 30 20 5000000 20000
    ∷ Issue 7003 (pos 18293) Whole 129 0 100001 40000
    ∷ Issue 7002 (pos 18294) Endowment 1 3 100002 40001
    ∷ Issue 7001 (pos 18322) Limited 128 2 300000 50000 ∷ [])
    (term_policy 7004
    ∷ record {
      id = 7003;
      plan = Whole;
      age = 129;
      years = 0;
      amount = 100001;
      premium = 40000;
      issued = pos 18293;
      last = pos 18293;
      paid = 0;
      status = InForce;
      outstanding = 0;
    }
    ∷ record {
      id = 7002;
      plan = Endowment;
      age = 1;
      years = 3;
      amount = 100002;
      premium = 40001;
      issued = pos 18294;
      last = pos 18294;
      paid = 0;
      status = InForce;
      outstanding = 0;
    }
    ∷ record {
      id = 7001;
      plan = Limited;
      age = 128;
      years = 2;
      amount = 300000;
      premium = 50000;
      issued = pos 18322;
      last = pos 18322;
      paid = 0;
      status = InForce;
      outstanding = 0;
    } ∷ [])
