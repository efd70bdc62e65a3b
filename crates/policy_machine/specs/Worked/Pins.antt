-- Worked histories of pins, reads and floors. A pin's number is the place of its turn, counted from 0
use Rattle.std.specs.Prelude.{List, [], ◌∷◌, ◌++◌, pos}
use Rattle.policy_machine.specs.Worked.Names.{repeat, Command, Issue, Term, Policy, InForce, Pin, PinAt, Read, Unpin, Trim, Accepted, Pinned, PinRefused, Policies, Unpinned, Floor, Ahead, Trimmed, PinsFull, Entry, IsDue, IsLegalAfter}
use Rattle.policy_machine.specs.Worked.Cases.{policy_issue, policy_with, premium_on, term_policy, empty_office, turn, posting}

-- another policy, and as it is issued
abbrev pub second_issue : Command
second_issue = Issue 7002 (pos 18262) Term 30 20 5000000 20000

abbrev pub second_policy : Policy
second_policy = term_policy 7002

-- turn 1 pins one policy, unpaid; turn 4 pins two, the first of them paid
abbrev pub pinned_turns : List Entry
pinned_turns = posting policy_issue (Accepted 1)
    ∷ turn 2 Pin (Pinned 1 1)
    ∷ posting (premium_on (pos 18262)) (Accepted 2)
    ∷ posting second_issue (Accepted 3)
    ∷ turn 2 Pin (Pinned 3 2) ∷ []

-- what a pin holds stays while others post, until it is given up
abbrev pub PinnedReads : Type 0
PinnedReads = IsLegalAfter empty_office []
    (pinned_turns
    ++ turn 2 (Read 1 0) (Policies (policy_with (pos 18262) 0 InForce 0 ∷ []))
    ∷ turn 2 (Read 1 1) (Policies [])
    ∷ turn 2 (Read 4 0) (Policies (policy_with (pos 18262) 1 InForce 0 ∷ second_policy ∷ []))
    ∷ turn 2 (Read 4 1) (Policies (second_policy ∷ []))
    ∷ turn 2 (Unpin 1) Unpinned
    ∷ turn 2 (Read 4 0) (Policies (policy_with (pos 18262) 1 InForce 0 ∷ second_policy ∷ []))
    ∷ turn 2 (Unpin 4) Unpinned ∷ [])

-- a pin can be read as it stood alone, and not as a newer one
abbrev pub NoNewerRead : Type 0
NoNewerRead = IsDue empty_office pinned_turns 2 (Read 1 0) (Policies (policy_with (pos 18262) 1 InForce 0 ∷ [])) → ⊥

-- nobody reads another's pin or gives it up
abbrev pub NoReadOfAnothers : Type 0
NoReadOfAnothers =
    IsDue empty_office pinned_turns 1 (Read 1 0) (Policies (policy_with (pos 18262) 0 InForce 0 ∷ [])) → ⊥

abbrev pub NoUnpinOfAnothers : Type 0
NoUnpinOfAnothers = IsDue empty_office pinned_turns 1 (Unpin 1) Unpinned → ⊥

-- a pin that was given up is neither read nor given up again
abbrev pub given_up : List Entry
given_up = pinned_turns ++ turn 2 (Unpin 1) Unpinned ∷ []

abbrev pub NoReadOfGivenUp : Type 0
NoReadOfGivenUp = IsDue empty_office given_up 2 (Read 1 0) (Policies (policy_with (pos 18262) 0 InForce 0 ∷ [])) → ⊥

abbrev pub NoUnpinTwice : Type 0
NoUnpinTwice = IsDue empty_office given_up 2 (Unpin 1) Unpinned → ⊥

-- a read begins at most at the number of the pin's policies
abbrev pub NoReadPastTheEnd : Type 0
NoReadPastTheEnd = IsDue empty_office pinned_turns 2 (Read 1 2) (Policies []) → ⊥

-- without a live pin `trim` answers the count, with live ones the least of their positions; a position at the floor
-- can be pinned and the one below it can't
abbrev pub Floors : Type 0
Floors = IsLegalAfter empty_office []
    (posting policy_issue (Accepted 1)
    ∷ turn 2 (PinAt 0) (Pinned 0 0)
    ∷ turn 2 (Unpin 1) Unpinned
    ∷ posting (premium_on (pos 18262)) (Accepted 2)
    ∷ turn 1 Trim (Floor 2)
    ∷ turn 2 (PinAt 1) (PinRefused (Trimmed 2))
    ∷ turn 2 (PinAt 2) (Pinned 2 1)
    ∷ turn 2 (PinAt 3) (PinRefused (Ahead 2))
    ∷ posting second_issue (Accepted 3)
    ∷ turn 2 (PinAt 3) (Pinned 3 2)
    ∷ turn 1 Trim (Floor 2)
    ∷ turn 2 (Read 6 0) (Policies (policy_with (pos 18262) 1 InForce 0 ∷ []))
    ∷ turn 2 (Unpin 6) Unpinned
    ∷ turn 1 Trim (Floor 3)
    ∷ turn 1 (PinAt 2) (PinRefused (Trimmed 3))
    ∷ turn 2 (Unpin 9) Unpinned
    ∷ turn 1 Trim (Floor 3) ∷ [])

-- after the floor was set to 2, the count being 2
abbrev pub trimmed_turns : List Entry
trimmed_turns = posting policy_issue (Accepted 1)
    ∷ posting (premium_on (pos 18262)) (Accepted 2)
    ∷ turn 1 Trim (Floor 2) ∷ []

-- below the floor nothing is pinned, at it nothing is refused as trimmed, and at the count nothing is ahead
abbrev pub NoPinBelowTheFloor : Type 0
NoPinBelowTheFloor = IsDue empty_office trimmed_turns 1 (PinAt 1) (Pinned 1 1) → ⊥

abbrev pub NotTrimmedAtTheFloor : Type 0
NotTrimmedAtTheFloor = IsDue empty_office trimmed_turns 1 (PinAt 2) (PinRefused (Trimmed 2)) → ⊥

abbrev pub NotAheadAtTheCount : Type 0
NotAheadAtTheCount = IsDue empty_office trimmed_turns 1 (PinAt 2) (PinRefused (Ahead 2)) → ⊥

abbrev pub NotFullOfNoPins : Type 0
NotFullOfNoPins = IsDue empty_office trimmed_turns 1 Pin (PinRefused PinsFull) → ⊥

-- sixteen pins of two callers
abbrev pub sixteen_pins : List Entry
sixteen_pins = repeat 8 (turn 1 Pin (Pinned 0 0) ∷ turn 2 (PinAt 0) (Pinned 0 0) ∷ [])

-- the seventeenth is refused, until one is given up; then there is room for one
abbrev pub SixteenPins : Type 0
SixteenPins = IsLegalAfter empty_office []
    (sixteen_pins
    ++ turn 1 Pin (PinRefused PinsFull)
    ∷ turn 3 (PinAt 0) (PinRefused PinsFull)
    ∷ turn 3 (PinAt 1) (PinRefused (Ahead 0))
    ∷ turn 1 (Unpin 2) Unpinned
    ∷ turn 3 Pin (Pinned 0 0)
    ∷ turn 1 Pin (PinRefused PinsFull) ∷ [])

abbrev pub NoSeventeenthPin : Type 0
NoSeventeenthPin = IsDue empty_office sixteen_pins 3 Pin (Pinned 0 0) → ⊥

abbrev pub NoSeventeenthPinAt : Type 0
NoSeventeenthPinAt = IsDue empty_office sixteen_pins 3 (PinAt 0) (Pinned 0 0) → ⊥
