-- Worked histories of postings: positions, faults, and what an office can be opened on
use Rattle.std.specs.Prelude.{◌≡◌, ℕ, ◌-◌, ◌^◌, List, [], ◌∷◌, pos, Some, None, length}
use Rattle.policy_machine.specs.Worked.Names.{Command, Issue, Whole, Refusal, Taken, Unknown, Full, Post, Accepted, Refused, Faulted, Blank, judge, IsDue, IsLegalAfter, IsOpening, opened_on, refusal_due}
use Rattle.policy_machine.specs.Worked.Cases.{policy_issue, premium_on, paid_once, empty_office, posting}

-- positions go on from the commands that the office was opened on
abbrev pub PositionsGoOn : Type 0
PositionsGoOn = IsLegalAfter (opened_on paid_once 0) [] (posting (premium_on (pos 18628)) (Accepted 3) ∷ [])

-- no position is left out, and none is given twice
abbrev pub NoGap : Type 0
NoGap = IsDue empty_office [] 1 (Post policy_issue) (Accepted 2) → ⊥

abbrev pub NoPositionTwice : Type 0
NoPositionTwice = IsDue (opened_on paid_once 0) [] 1 (Post (premium_on (pos 18628))) (Accepted 2) → ⊥

-- the disk had counted 3 faults at the opening: a posting that meets a later one leaves the book as it was, and so does
-- one that is answered a refusal of memory
abbrev pub Faults : Type 0
Faults = IsLegalAfter (opened_on [] 3) []
    (posting policy_issue (Faulted 4)
    ∷ posting policy_issue (Faulted 6)
    ∷ posting policy_issue Blank
    ∷ posting policy_issue (Accepted 1)
    ∷ posting policy_issue (Refused Taken)
    ∷ posting policy_issue Blank ∷ [])

-- a fault of the opening, or one that was answered before, answers no posting
abbrev pub NoFaultOfTheOpening : Type 0
NoFaultOfTheOpening = IsDue (opened_on [] 3) [] 1 (Post policy_issue) (Faulted 3) → ⊥

abbrev pub NoFaultTwice : Type 0
NoFaultTwice = IsDue (opened_on [] 3) (posting policy_issue (Faulted 6) ∷ []) 1 (Post policy_issue) (Faulted 6) → ⊥

-- at its last value the count stands still
abbrev pub FaultAtTheLastCount : Type 0
FaultAtTheLastCount = IsLegalAfter (opened_on [] (2 ^ 64 - 1)) [] (posting policy_issue (Faulted (2 ^ 64 - 1)) ∷ [])

-- what the rules refuse is answered by the refusal, and what they accept by none
abbrev pub NoFaultOfARefusal : Type 0
NoFaultOfARefusal = IsDue empty_office (posting policy_issue (Accepted 1) ∷ []) 1 (Post policy_issue) (Faulted 1) → ⊥

abbrev pub NoOtherRefusal : Type 0
NoOtherRefusal = IsDue empty_office (posting policy_issue (Accepted 1) ∷ []) 1 (Post policy_issue) (Refused Unknown) → ⊥

abbrev pub NoRefusal : Type 0
NoRefusal = (refusal : Refusal) → IsDue empty_office [] 1 (Post policy_issue) (Refused refusal) → ⊥

-- 4,000,000 commands are accepted in all: then what the rules accept is refused as full
abbrev pub FullAtTheLimit : Type 0
FullAtTheLimit = (commands : List Command) (command : Command) → judge commands command ≡ None → length commands ≡ 4000000
    → refusal_due commands command ≡ Some Full

-- and before that it isn't
abbrev pub NotFullBefore : Type 0
NotFullBefore = (commands : List Command) (command : Command) → judge commands command ≡ None → (length commands ≡ 4000000 → ⊥)
    → refusal_due commands command ≡ None

-- a refusal of the rules comes first
abbrev pub RulesBeforeFull : Type 0
RulesBeforeFull = (commands : List Command) (command : Command) (refusal : Refusal)
    → judge commands command ≡ Some refusal
    → refusal_due commands command ≡ Some refusal

-- an office can be opened on an issue and its first premium, and not on the premium alone
abbrev pub OpensOnAccepted : Type 0
OpensOnAccepted = IsOpening (opened_on paid_once 0)

abbrev pub NoOpeningOnRefused : Type 0
NoOpeningOnRefused = IsOpening (opened_on (premium_on (pos 18262) ∷ []) 0) → ⊥

-- nor on an issue that isn't valid
abbrev pub NoOpeningOnInvalid : Type 0
NoOpeningOnInvalid = IsOpening (opened_on (Issue 7001 (pos 18262) Whole 30 20 100000 40000 ∷ []) 0) → ⊥

-- nor on more commands than may be accepted
abbrev pub NoOpeningPastTheLimit : Type 0
NoOpeningPastTheLimit = (commands : List Command) (faults : ℕ) → length commands ≡ 4000001
    → IsOpening (opened_on commands faults) → ⊥
