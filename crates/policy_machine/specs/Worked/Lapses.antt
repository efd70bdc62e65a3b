-- Worked cases of lapses and reinstatements. In each case of a refusal, reasons that come later in the order apply as
-- well
use Rattle.std.specs.Prelude.{[], ◌∷◌, List, pos}
use Rattle.policy_machine.specs.Worked.Names.{Command, Issue, Lapse, Reinstate, Endowment, Limited, InForce, Lapsed, Claimed, Unknown, BeforeLast, WrongStatus, TermOver, NothingDue, NotInArrears, TooLate, WrongAmount, Accepted, Refused, IsLegalAfter}
use Rattle.policy_machine.specs.Worked.Cases.{Accepts, Refuses, LeavePolicies, policy_issue, policy_with, premium_on, unpaid, paid_once, paid_up, lapsed_once, claimed, empty_office, posting}

-- with the first premium paid, a lapse is refused on 2021-02-01 and accepted on 2021-02-02; to reinstate on
-- 2022-01-01 costs two premiums
abbrev pub LapseAndReinstate : Type 0
LapseAndReinstate = IsLegalAfter empty_office []
    (posting policy_issue (Accepted 1)
    ∷ posting (premium_on (pos 18262)) (Accepted 2)
    ∷ posting (Lapse 7001 (pos 18659)) (Refused (NotInArrears (pos 18628)))
    ∷ posting (Lapse 7001 (pos 18660)) (Accepted 3)
    ∷ posting (Reinstate 7001 (pos 18993) 79999) (Refused (WrongAmount 80000))
    ∷ posting (Reinstate 7001 (pos 18993) 80000) (Accepted 4) ∷ [])

-- there is no policy, or one of another number
abbrev pub LapseUnknown : Type 0
LapseUnknown = Refuses [] (Lapse 7001 (pos 18294)) Unknown × Refuses unpaid (Lapse 7002 (pos 18294)) Unknown

-- the day before the lapse, although the policy has lapsed
abbrev pub LapseBeforeLast : Type 0
LapseBeforeLast = Refuses lapsed_once (Lapse 7001 (pos 18659)) (BeforeLast (pos 18660))

-- a second lapse on the day of the first; a claimed policy, although its second premium is in its days of grace
abbrev pub LapseWrongStatus : Type 0
LapseWrongStatus = Refuses lapsed_once (Lapse 7001 (pos 18660)) (WrongStatus Lapsed)
    × Refuses claimed (Lapse 7001 (pos 18628)) (WrongStatus Claimed)

-- a policy whose premiums are all paid doesn't lapse, neither in its term nor after it
abbrev pub LapseNothingDue : Type 0
LapseNothingDue = Refuses paid_up (Lapse 7001 (pos 18993)) NothingDue × Refuses paid_up (Lapse 7001 (pos 20089)) NothingDue

-- the first premium is in its days of grace until 2020-02-01
abbrev pub LapseNotInArrears : Type 0
LapseNotInArrears = Refuses unpaid (Lapse 7001 (pos 18293)) (NotInArrears (pos 18262))
    × Accepts unpaid (Lapse 7001 (pos 18294))

-- lapsed on 2021-02-02
abbrev pub LapsedOnce : Type 0
LapsedOnce = LeavePolicies lapsed_once (policy_with (pos 18660) 1 Lapsed 0 ∷ [])

-- there is no policy, or one of another number
abbrev pub ReinstateUnknown : Type 0
ReinstateUnknown = Refuses [] (Reinstate 7001 (pos 18660) 40000) Unknown
    × Refuses lapsed_once (Reinstate 7002 (pos 18660) 40000) Unknown

-- the day before the lapse; the day before the last day of a policy that is in force
abbrev pub ReinstateBeforeLast : Type 0
ReinstateBeforeLast = Refuses lapsed_once (Reinstate 7001 (pos 18659) 40000) (BeforeLast (pos 18660))
    × Refuses unpaid (Reinstate 7001 (pos 18261) 40000) (BeforeLast (pos 18262))

-- a policy that hasn't lapsed, on the day its term ends
abbrev pub ReinstateWrongStatus : Type 0
ReinstateWrongStatus = Refuses paid_once (Reinstate 7001 (pos 19358) 40000) (WrongStatus InForce)

-- the term is over on 2023-01-01, although the amount is wrong; on the day before it isn't over
abbrev pub ReinstateTermOver : Type 0
ReinstateTermOver = Refuses lapsed_once (Reinstate 7001 (pos 19358) 79999) (TermOver (pos 19358))
    × Accepts lapsed_once (Reinstate 7001 (pos 19357) 80000)

-- an endowment for ten years, lapsed on 2020-02-02 for its first premium
abbrev pub lapsed_unpaid : List Command
lapsed_unpaid = Issue 7001 (pos 18262) Endowment 0 10 100000 40000 ∷ Lapse 7001 (pos 18294) ∷ []

-- it can be reinstated for four premiums on 2023-01-01, three years after the unpaid premium fell due, but not on
-- 2023-01-02, although the amount is wrong
abbrev pub ReinstateTooLate : Type 0
ReinstateTooLate = Accepts lapsed_unpaid (Reinstate 7001 (pos 19358) 160000)
    × Refuses lapsed_unpaid (Reinstate 7001 (pos 19359) 159999) (TooLate (pos 19358))

-- only the second premium is missed on 2021-12-31; the third is missed as well on 2022-01-01
abbrev pub ReinstateWrongAmount : Type 0
ReinstateWrongAmount = Refuses lapsed_once (Reinstate 7001 (pos 18992) 80000) (WrongAmount 40000)
    × Refuses lapsed_once (Reinstate 7001 (pos 18993) 40000) (WrongAmount 80000)

-- reinstated on 2022-01-01 with both premiums that fell due
abbrev pub Reinstated : Type 0
Reinstated =
    LeavePolicies (policy_issue ∷ premium_on (pos 18262) ∷ Lapse 7001 (pos 18660) ∷ Reinstate 7001 (pos 18993) 80000 ∷ [])
    (policy_with (pos 18993) 3 InForce 0 ∷ [])

-- limited life with two premiums, the second unpaid: on 2022-06-01 one premium is missed and not two
abbrev pub ReinstatedForPremiumsAlone : Type 0
ReinstatedForPremiumsAlone =
    let lapsed = Issue 7001 (pos 18262) Limited 128 2 100000 40000 ∷ premium_on (pos 18262) ∷ Lapse 7001 (pos 18660) ∷ [] in
    Accepts lapsed (Reinstate 7001 (pos 19144) 40000)
