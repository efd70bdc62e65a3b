-- Worked balances, added up by hand
use Rattle.std.specs.Prelude.{◌≡◌, List, [], ◌∷◌, ◌++◌, ℤ, pos, negsuc}
use Rattle.policy_machine.specs.Names.{Command, Issue, Alter, Lapse, Reinstate, Claim, Settle, Mature, Term, Whole}
use Rattle.policy_machine.specs.Accounts.{ledger_of}
use Rattle.policy_machine.specs.Worked.Cases.{policy_issue, premium_on, unpaid, paid_once, paid_up, lapsed_once}

-- the commands leave these balances
abbrev pub Books : (commands : List Command) (cash premiums incurred payable : ℤ) → Type 0
Books commands cash premiums incurred payable =
    ledger_of commands ≡ record { cash = cash; premiums = premiums; incurred = incurred; payable = payable }

-- a premium of 400.00, a death, and 400.00 of the 1000.00 paid out
abbrev pub ClaimAndSettleBooked : Type 0
ClaimAndSettleBooked = Books (paid_once ++ Claim 7001 (pos 18414) ∷ Settle 7001 (pos 18444) 40000 ∷ [])
    (pos 0) (negsuc 39999) (pos 100000) (negsuc 59999)

-- the amount that falls due is the reduced one
abbrev pub ReducedClaimBooked : Type 0
ReducedClaimBooked = Books (paid_once ++ Alter 7001 (pos 18263) 90000 36000 ∷ Claim 7001 (pos 18414) ∷ [])
    (pos 40000) (negsuc 39999) (pos 90000) (negsuc 89999)

-- a premium, a lapse, and two premiums to reinstate
abbrev pub ReinstatementBooked : Type 0
ReinstatementBooked = Books (lapsed_once ++ Reinstate 7001 (pos 18993) 80000 ∷ [])
    (pos 120000) (negsuc 119999) (pos 0) (pos 0)

-- three premiums, and the amount at the end of the term
abbrev pub MaturityBooked : Type 0
MaturityBooked = Books (paid_up ++ Mature 7001 (pos 19358) ∷ [])
    (pos 120000) (negsuc 119999) (pos 100000) (negsuc 99999)

-- the same under a term plan, which pays nothing at its end
abbrev pub ExpiryBooked : Type 0
ExpiryBooked = Books
    (Issue 7001 (pos 18262) Term 0 3 100000 40000 ∷ premium_on (pos 18262) ∷ premium_on (pos 18628) ∷ premium_on (pos 18993) ∷ Mature 7001 (pos 19358) ∷ [])
    (pos 120000) (negsuc 119999) (pos 0) (pos 0)

-- an issue and a lapse move no account
abbrev pub LapseBooked : Type 0
LapseBooked = Books (unpaid ++ Lapse 7001 (pos 18294) ∷ []) (pos 0) (pos 0) (pos 0) (pos 0)

-- each of two claims is booked with its own policy's amount, 500.00 and 1000.00
abbrev pub TwoPoliciesBooked : Type 0
TwoPoliciesBooked = Books
    (policy_issue ∷ Issue 7002 (pos 18262) Whole 0 0 50000 1000 ∷ Claim 7002 (pos 18262) ∷ Claim 7001 (pos 18262) ∷ [])
    (pos 0) (pos 0) (pos 150000) (negsuc 149999)
