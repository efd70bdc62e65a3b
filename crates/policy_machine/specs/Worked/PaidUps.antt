-- Worked cases of upgrades and of policies that are made paid up. Where a refusal is due, reasons that come after it in
-- order apply as well
use Rattle.std.specs.Prelude.{◌≡◌, ℕ, ℤ, List, [], ◌∷◌, ◌++◌, pos, negsuc}
use Rattle.policy_machine.specs.Worked.Names.{Command, Issue, Alter, Lapse, Reinstate, Claim, Mature, PaidUp, Upgrade, Term, Endowment, Policy, Status, Lapsed, Claimed, Matured, Expired, IsPaidUp, Unknown, BeforeLast, WrongStatus, TermOver, NothingDue, GraceOver, NotAReduction, NotMatured, NotUpgraded, Upgraded, Accepted, Refused, upgrade_of, IsLegalAfter, opened_on}
use Rattle.policy_machine.specs.Worked.Balances.{Books}
use Rattle.policy_machine.specs.Worked.Cases.{Accepts, Refuses, LeavePolicies, policy_issue, premium_on, paid_once, paid_up, lapsed_once, posting}

-- the policy is made paid up for 300.00 on 2020-12-01: not before the upgrade, which is the third command and comes once.
-- On 2021-01-01 it takes no premium, and a death on 2021-06-01 is covered
abbrev pub PaidUpOnce : Type 0
PaidUpOnce = IsLegalAfter (opened_on paid_once 0) []
    (posting (PaidUp 7001 (pos 18597) 30000) (Refused NotUpgraded)
    ∷ posting Upgrade (Accepted 3)
    ∷ posting Upgrade (Refused (Upgraded 3))
    ∷ posting (PaidUp 7001 (pos 18597) 30000) (Accepted 4)
    ∷ posting (premium_on (pos 18628)) (Refused (WrongStatus IsPaidUp))
    ∷ posting (Claim 7001 (pos 18779)) (Accepted 5)
    ∷ posting Upgrade (Refused (Upgraded 3)) ∷ [])

-- places are counted from 1, and a journal without an upgrade has none
abbrev pub UpgradePlaces : Type 0
UpgradePlaces = (upgrade_of paid_once ≡ 0) × (upgrade_of (Upgrade ∷ paid_once) ≡ 1) × (upgrade_of (paid_once ++ Upgrade ∷ []) ≡ 3)
    × (upgrade_of (policy_issue ∷ Upgrade ∷ Upgrade ∷ []) ≡ 2)

abbrev pub upgraded : List Command → List Command
upgraded commands = commands ++ Upgrade ∷ []

-- made paid up
abbrev pub reduced : List Command
reduced = upgraded paid_once ++ PaidUp 7001 (pos 18597) 30000 ∷ []

-- the reduced policy with its last day, its status and what is outstanding
abbrev pub reduced_with : ℤ → Status → ℕ → Policy
reduced_with last status outstanding = record {
  id = 7001;
  plan = Endowment;
  age = 0;
  years = 3;
  amount = 30000;
  premium = 40000;
  issued = pos 18262;
  last = last;
  paid = 1;
  status = status;
  outstanding = outstanding;
}

abbrev pub MadePaidUp : Type 0
MadePaidUp = LeavePolicies reduced (reduced_with (pos 18597) IsPaidUp 0 ∷ [])

-- there is no policy, or one of another number; without an upgrade that isn't reported
abbrev pub PaidUpUnknown : Type 0
PaidUpUnknown = Refuses (upgraded []) (PaidUp 7001 (pos 18597) 30000) Unknown
    × Refuses (upgraded paid_once) (PaidUp 7002 (pos 18597) 30000) Unknown
    × Refuses [] (PaidUp 7001 (pos 18597) 30000) NotUpgraded

-- the day before the lapse, though the policy has lapsed
abbrev pub PaidUpBeforeLast : Type 0
PaidUpBeforeLast = Refuses (upgraded lapsed_once) (PaidUp 7001 (pos 18659) 30000) (BeforeLast (pos 18660))

-- a lapsed policy on the day its term ends; a policy that is paid up already, although its amount isn't reduced
abbrev pub PaidUpWrongStatus : Type 0
PaidUpWrongStatus = Refuses (upgraded lapsed_once) (PaidUp 7001 (pos 19358) 30000) (WrongStatus Lapsed)
    × Refuses reduced (PaidUp 7001 (pos 18597) 30000) (WrongStatus IsPaidUp)

-- the term is over on 2023-01-01, though the grace of the second premium is over too, or nothing is due
abbrev pub PaidUpTermOver : Type 0
PaidUpTermOver = Refuses (upgraded paid_once) (PaidUp 7001 (pos 19358) 30000) (TermOver (pos 19358))
    × Refuses (upgraded paid_up) (PaidUp 7001 (pos 19358) 30000) (TermOver (pos 19358))

-- all premiums are paid on the day before, though the amount isn't reduced
abbrev pub PaidUpNothingDue : Type 0
PaidUpNothingDue = Refuses (upgraded paid_up) (PaidUp 7001 (pos 19357) 100000) NothingDue

-- the days of grace end on 2021-02-01; on the day after it is refused for them, though the amount isn't reduced
abbrev pub PaidUpGraceOver : Type 0
PaidUpGraceOver = Accepts (upgraded paid_once) (PaidUp 7001 (pos 18659) 30000)
    × Refuses (upgraded paid_once) (PaidUp 7001 (pos 18660) 100000) (GraceOver (pos 18628))

-- the same amount, and a cent less
abbrev pub PaidUpNotAReduction : Type 0
PaidUpNotAReduction = Refuses (upgraded paid_once) (PaidUp 7001 (pos 18597) 100000) (NotAReduction 100000)
    × Accepts (upgraded paid_once) (PaidUp 7001 (pos 18597) 99999)

-- it can't be altered, lapse or be reinstated, though the second premium was never paid
abbrev pub NoPremiumsFromThere : Type 0
NoPremiumsFromThere = Refuses reduced (premium_on (pos 18597)) (WrongStatus IsPaidUp)
    × Refuses reduced (Alter 7001 (pos 18597) 20000 20000) (WrongStatus IsPaidUp)
    × Refuses reduced (Lapse 7001 (pos 18660)) (WrongStatus IsPaidUp)
    × Refuses reduced (Reinstate 7001 (pos 18660) 40000) (WrongStatus IsPaidUp)

-- a death is covered to the day before 2023-01-01, whatever wasn't paid, and 300.00 fall due
abbrev pub ClaimedPaidUp : Type 0
ClaimedPaidUp = Refuses reduced (Claim 7001 (pos 18596)) (BeforeLast (pos 18597))
    × Refuses reduced (Claim 7001 (pos 19358)) (TermOver (pos 19358))
    × LeavePolicies (reduced ++ Claim 7001 (pos 19357) ∷ []) (reduced_with (pos 19357) Claimed 30000 ∷ [])

-- a premium, no booking of the upgrade and of the policy made paid up, and the reduced amount at the death
abbrev pub PaidUpClaimBooked : Type 0
PaidUpClaimBooked = Books (reduced ++ Claim 7001 (pos 19357) ∷ []) (pos 40000) (negsuc 39999) (pos 30000) (negsuc 29999)

-- at the end of its term the endowment matures, and 300.00 fall due
abbrev pub MaturedPaidUp : Type 0
MaturedPaidUp = Refuses reduced (Mature 7001 (pos 19357)) (NotMatured (pos 19358))
    × LeavePolicies (reduced ++ Mature 7001 (pos 19358) ∷ []) (reduced_with (pos 19358) Matured 30000 ∷ [])

-- paid-up term insurance expires, and nothing falls due
abbrev pub ExpiredPaidUp : Type 0
ExpiredPaidUp = LeavePolicies
    (Issue 7001 (pos 18262) Term 0 2 100000 40000 ∷ premium_on (pos 18262) ∷ Upgrade ∷ PaidUp 7001 (pos 18597) 30000
    ∷ Mature 7001 (pos 18993) ∷ [])
    (record {
      id = 7001;
      plan = Term;
      age = 0;
      years = 2;
      amount = 30000;
      premium = 40000;
      issued = pos 18262;
      last = pos 18993;
      paid = 1;
      status = Expired;
      outstanding = 0;
    } ∷ [])
