-- Worked cases of premiums. Where a refusal is due, reasons that come after it in order apply as well
use Rattle.std.specs.Prelude.{[], ◌∷◌, pos}
use Rattle.policy_machine.specs.Names.{Issue, Premium, Whole, Endowment, Limited, InForce, Lapsed, Claimed, Unknown, BeforeLast, WrongStatus, TermOver, NothingDue, TooEarly, GraceOver, WrongAmount}
use Rattle.policy_machine.specs.Worked.Cases.{Accepts, Refuses, LeavePolicies, policy_issue, policy_with, premium_on, unpaid, paid_once, paid_up, lapsed_once, claimed}

-- there is no policy, or one of another number
abbrev pub PremiumUnknown : Type 0
PremiumUnknown = Refuses [] (premium_on (pos 18262)) Unknown × Refuses unpaid (Premium 7002 (pos 18262) 40000) Unknown

-- the day before the lapse, though the policy has lapsed
abbrev pub PremiumBeforeLast : Type 0
PremiumBeforeLast = Refuses lapsed_once (premium_on (pos 18659)) (BeforeLast (pos 18660))

-- a lapsed policy on the day its term ends, and a claimed one on the day of the claim
abbrev pub PremiumWrongStatus : Type 0
PremiumWrongStatus = Refuses lapsed_once (premium_on (pos 19358)) (WrongStatus Lapsed)
    × Refuses claimed (premium_on (pos 18414)) (WrongStatus Claimed)

-- the term is over on 2023-01-01, although all premiums are paid; on the day before it isn't
abbrev pub PremiumTermOver : Type 0
PremiumTermOver = Refuses paid_up (premium_on (pos 19358)) (TermOver (pos 19358))
    × Refuses paid_up (premium_on (pos 19357)) NothingDue

-- no fourth premium is due on the day of the third, although it would be early for one and the amount is wrong
abbrev pub PremiumNothingDue : Type 0
PremiumNothingDue = Refuses paid_up (Premium 7001 (pos 18993) 39999) NothingDue

-- the premium of 2021-01-01 is early on 2020-10-02, 91 days before, though the amount is wrong, and not on 2020-10-03
abbrev pub PremiumTooEarly : Type 0
PremiumTooEarly = Refuses paid_once (Premium 7001 (pos 18537) 39999) (TooEarly (pos 18628))
    × Accepts paid_once (premium_on (pos 18538))

-- the first premium is accepted on 2020-02-01, the 31st day, and refused on 2020-02-02
abbrev pub Grace : Type 0
Grace = Accepts unpaid (premium_on (pos 18293)) × Refuses unpaid (premium_on (pos 18294)) (GraceOver (pos 18262))

-- the second is accepted on 2021-02-01 and refused on 2021-02-02, though the amount is wrong
abbrev pub PremiumGraceOver : Type 0
PremiumGraceOver = Accepts paid_once (premium_on (pos 18659))
    × Refuses paid_once (Premium 7001 (pos 18660) 39999) (GraceOver (pos 18628))

-- a cent less, and a cent more
abbrev pub PremiumWrongAmount : Type 0
PremiumWrongAmount = Refuses paid_once (Premium 7001 (pos 18628) 39999) (WrongAmount 40000)
    × Refuses paid_once (Premium 7001 (pos 18628) 40001) (WrongAmount 40000)

-- a premium that is refused changes nothing
abbrev pub PremiumRefused : Type 0
PremiumRefused = LeavePolicies (policy_issue ∷ Premium 7001 (pos 18262) 39999 ∷ []) (policy_with (pos 18262) 0 InForce 0 ∷ [])

-- the second premium on 2021-02-01
abbrev pub PremiumPaid : Type 0
PremiumPaid = LeavePolicies (policy_issue ∷ premium_on (pos 18262) ∷ premium_on (pos 18659) ∷ [])
    (policy_with (pos 18659) 2 InForce 0 ∷ [])

-- a policy issued on 2024-02-29 has its second premium due on 2025-02-28: on 2024-11-29 that is too early, on
-- 2024-11-30 it isn't
abbrev pub LeapDay : Type 0
LeapDay =
    let paid = Issue 7001 (pos 19782) Endowment 0 3 100000 40000 ∷ premium_on (pos 19782) ∷ [] in
    Refuses paid (premium_on (pos 20056)) (TooEarly (pos 20147)) × Accepts paid (premium_on (pos 20057))

-- whole life issued at age 129 on 2020-01-01 has two premiums and ends on 2022-01-01
abbrev pub WholeLifePremiums : Type 0
WholeLifePremiums =
    let paid = Issue 7001 (pos 18262) Whole 129 0 100000 40000 ∷ premium_on (pos 18262) ∷ premium_on (pos 18628) ∷ [] in
    Refuses paid (premium_on (pos 18992)) NothingDue × Refuses paid (premium_on (pos 18993)) (TermOver (pos 18993))

-- limited life issued at age 128 on 2020-01-01 for two years has two premiums and ends on 2023-01-01
abbrev pub LimitedPremiums : Type 0
LimitedPremiums =
    let paid = Issue 7001 (pos 18262) Limited 128 2 100000 40000 ∷ premium_on (pos 18262) ∷ premium_on (pos 18628) ∷ [] in
    Refuses paid (premium_on (pos 19357)) NothingDue × Refuses paid (premium_on (pos 19358)) (TermOver (pos 19358))
