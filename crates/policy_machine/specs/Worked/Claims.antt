-- Worked cases of claims and their settlement. In each case of a refusal, reasons that come later in the order apply
-- as well
use Rattle.std.specs.Prelude.{[], ◌∷◌, pos}
use Rattle.policy_machine.specs.Worked.Names.{Claim, Settle, InForce, Lapsed, Claimed, Settled, Unknown, BeforeLast, WrongStatus, TermOver, GraceOver, OverSettled, Accepted, Refused, IsLegalAfter}
use Rattle.policy_machine.specs.Worked.Cases.{Accepts, Refuses, LeavePolicies, policy_issue, policy_with, premium_on, unpaid, paid_once, paid_up, lapsed_once, claimed, empty_office, posting}

-- after a death on 2020-06-01 the amount is paid out in parts, and no more than what is outstanding
abbrev pub ClaimAndSettle : Type 0
ClaimAndSettle = IsLegalAfter empty_office []
    (posting policy_issue (Accepted 1)
    ∷ posting (premium_on (pos 18262)) (Accepted 2)
    ∷ posting (Claim 7001 (pos 18414)) (Accepted 3)
    ∷ posting (Settle 7001 (pos 18444) 40000) (Accepted 4)
    ∷ posting (Settle 7001 (pos 18445) 60001) (Refused (OverSettled 60000)) ∷ [])

-- there is no policy, or one of another number
abbrev pub ClaimUnknown : Type 0
ClaimUnknown = Refuses [] (Claim 7001 (pos 18262)) Unknown × Refuses unpaid (Claim 7002 (pos 18262)) Unknown

-- the day before the lapse, although the policy has lapsed
abbrev pub ClaimBeforeLast : Type 0
ClaimBeforeLast = Refuses lapsed_once (Claim 7001 (pos 18659)) (BeforeLast (pos 18660))

-- a lapsed policy on the day its term ends
abbrev pub ClaimWrongStatus : Type 0
ClaimWrongStatus = Refuses lapsed_once (Claim 7001 (pos 19358)) (WrongStatus Lapsed)

-- a death on 2023-01-01 is after the term, although the grace of the second premium is over too; a death on the day
-- before is within the term
abbrev pub ClaimTermOver : Type 0
ClaimTermOver = Refuses paid_once (Claim 7001 (pos 19358)) (TermOver (pos 19358))
    × Refuses paid_up (Claim 7001 (pos 19358)) (TermOver (pos 19358))
    × Accepts paid_up (Claim 7001 (pos 19357))

-- the days of grace end on 2021-02-01
abbrev pub ClaimGraceOver : Type 0
ClaimGraceOver = Accepts paid_once (Claim 7001 (pos 18659))
    × Refuses paid_once (Claim 7001 (pos 18660)) (GraceOver (pos 18628))

-- a death on 2020-06-01
abbrev pub ClaimedOnce : Type 0
ClaimedOnce = LeavePolicies claimed (policy_with (pos 18414) 1 Claimed 100000 ∷ [])

-- there is no policy, or one of another number
abbrev pub SettleUnknown : Type 0
SettleUnknown = Refuses [] (Settle 7001 (pos 18414) 100000) Unknown × Refuses claimed (Settle 7002 (pos 18414) 100000) Unknown

-- the day before the death, although the amount is too much; the day before the last day of a policy that is in force
abbrev pub SettleBeforeLast : Type 0
SettleBeforeLast = Refuses claimed (Settle 7001 (pos 18413) 100001) (BeforeLast (pos 18414))
    × Refuses unpaid (Settle 7001 (pos 18261) 1) (BeforeLast (pos 18262))

-- nothing can be settled on a policy in force, on a lapsed one, or on one that is settled
abbrev pub SettleWrongStatus : Type 0
SettleWrongStatus = Refuses unpaid (Settle 7001 (pos 18262) 1) (WrongStatus InForce)
    × Refuses lapsed_once (Settle 7001 (pos 18660) 1) (WrongStatus Lapsed)
    × Refuses (policy_issue ∷ Claim 7001 (pos 18262) ∷ Settle 7001 (pos 18262) 100000 ∷ [])
    (Settle 7001 (pos 18262) 1) (WrongStatus Settled)

-- a cent more than the amount
abbrev pub SettleOverSettled : Type 0
SettleOverSettled = Refuses claimed (Settle 7001 (pos 18414) 100001) (OverSettled 100000)
    × Accepts claimed (Settle 7001 (pos 18414) 100000)

-- a part is settled on 2020-07-01
abbrev pub SettledInPart : Type 0
SettledInPart = LeavePolicies (policy_issue ∷ premium_on (pos 18262) ∷ Claim 7001 (pos 18414) ∷ Settle 7001 (pos 18444) 40000 ∷ [])
    (policy_with (pos 18444) 1 Claimed 60000 ∷ [])

-- and the rest on 2020-07-02
abbrev pub SettledInFull : Type 0
SettledInFull =
    LeavePolicies
    (policy_issue ∷ premium_on (pos 18262) ∷ Claim 7001 (pos 18414)
    ∷ Settle 7001 (pos 18444) 40000 ∷ Settle 7001 (pos 18445) 60000 ∷ [])
    (policy_with (pos 18445) 1 Settled 0 ∷ [])
