-- Worked merges of two clerks' lanes. The first, caller 5, posts the policy and values the book; the second, caller 6,
-- posts its premium and trims
use Rattle.std.specs.Prelude.{◌≡◌, List, [], ◌∷◌, pos}
use Rattle.policy_machine.specs.Worked.Names.{InForce, Post, Pin, PinAt, Read, Unpin, TrimCall, Accepted, Pinned, PinRefused, Policies, Unpinned, Floor, Ahead, Trimmed, Entry, Now, Position, Lane, IsLegalAfter}
use Rattle.policy_types.specs.declared.script.Line.TheVariants.{Post as PostLine, Value, Trim}
use Rattle.policy_machine.specs.Merge.{IsMerge, reads_of}
use Rattle.policy_machine.specs.Worked.Cases.{policy_issue, policy_with, premium_on, empty_office, turn}

-- the reads of a pin: none of no policies, one of 256, two of 257
abbrev pub ReadsByPolicies : Type 0
ReadsByPolicies = (reads_of 7 0 ≡ []) × (reads_of 7 1 ≡ Read 7 0 ∷ [])
    × (reads_of 7 256 ≡ Read 7 0 ∷ []) × (reads_of 7 257 ≡ Read 7 0 ∷ Read 7 256 ∷ [])
    × (reads_of 7 513 ≡ Read 7 0 ∷ Read 7 256 ∷ Read 7 512 ∷ [])

abbrev pub second_lane : Lane
second_lane = record { number = 2; lines = PostLine (premium_on (pos 18262)) ∷ Trim ∷ [] }

abbrev pub two_lanes : List Lane
two_lanes = record { number = 1; lines = PostLine policy_issue ∷ Value (pos 18628) Now 1 ∷ [] } ∷ second_lane ∷ []

-- a lane without lines
abbrev pub idle_lane : Lane
idle_lane = record { number = 2; lines = [] }

-- the premium is posted, and the office trimmed, between the pin of turn 1 and its read
abbrev pub whole_turns : List Entry
whole_turns = turn 5 (Post policy_issue) (Accepted 1)
    ∷ turn 5 Pin (Pinned 1 1)
    ∷ turn 6 (Post (premium_on (pos 18262))) (Accepted 2)
    ∷ turn 6 TrimCall (Floor 1)
    ∷ turn 5 (Read 1 0) (Policies (policy_with (pos 18262) 0 InForce 0 ∷ []))
    ∷ turn 5 (Unpin 1) Unpinned ∷ []

-- the same, and the valuation gives its pin up unread
abbrev pub dry_turns : List Entry
dry_turns = turn 5 (Post policy_issue) (Accepted 1)
    ∷ turn 5 Pin (Pinned 1 1)
    ∷ turn 6 (Post (premium_on (pos 18262))) (Accepted 2)
    ∷ turn 6 TrimCall (Floor 1)
    ∷ turn 5 (Unpin 1) Unpinned ∷ []

abbrev pub WholeIsLegal : Type 0
WholeIsLegal = IsLegalAfter empty_office [] whole_turns

abbrev pub DryIsLegal : Type 0
DryIsLegal = IsLegalAfter empty_office [] dry_turns

-- with all reads of the pin, it matters not whether the valuation found memory
abbrev pub WholeMerge : Type 0
WholeMerge = IsMerge whole_turns two_lanes (5 ∷ 6 ∷ []) [] × IsMerge whole_turns two_lanes (5 ∷ 6 ∷ []) (1 ∷ [])

-- without them, it found none
abbrev pub DryMerge : Type 0
DryMerge = IsMerge dry_turns two_lanes (5 ∷ 6 ∷ []) (1 ∷ [])

-- reads aren't left out where another valuation was refused memory, or none
abbrev pub NoReadLeftOut : Type 0
NoReadLeftOut = IsMerge dry_turns two_lanes (5 ∷ 6 ∷ []) (2 ∷ []) → ⊥

-- the lanes' callers are told apart by their order
abbrev pub NoOthersLines : Type 0
NoOthersLines = IsMerge whole_turns two_lanes (6 ∷ 5 ∷ []) [] → ⊥

-- every line is answered: the trim isn't left out
abbrev pub NoLineLeftOut : Type 0
NoLineLeftOut =
    IsMerge (turn 6 (Post (premium_on (pos 18262))) (Accepted 2) ∷ []) (second_lane ∷ []) (6 ∷ []) [] → ⊥

-- and answered once: nothing is posted twice
abbrev pub NoLineTwice : Type 0
NoLineTwice =
    IsMerge
    (turn 6 (Post (premium_on (pos 18262))) (Accepted 2) ∷ turn 6 TrimCall (Floor 2)
    ∷ turn 6 TrimCall (Floor 2) ∷ [])
    (second_lane ∷ []) (6 ∷ []) [] → ⊥

-- in the order of its lane
abbrev pub NoOtherOrder : Type 0
NoOtherOrder =
    IsMerge (turn 6 TrimCall (Floor 1) ∷ turn 6 (Post (premium_on (pos 18262))) (Accepted 2) ∷ []) (second_lane ∷ []) (6 ∷ []) [] → ⊥

-- by the call that the line asks for
abbrev pub NoOtherCall : Type 0
NoOtherCall =
    IsMerge (turn 6 (Post (premium_on (pos 18262))) (Accepted 2) ∷ turn 6 Pin (Pinned 2 1) ∷ []) (second_lane ∷ []) (6 ∷ []) [] → ⊥

-- every turn is that of a lane's caller
abbrev pub NoStranger : Type 0
NoStranger =
    IsMerge
    (turn 6 (Post (premium_on (pos 18262))) (Accepted 2) ∷ turn 6 TrimCall (Floor 2) ∷ turn 7 TrimCall (Floor 2) ∷ [])
    (second_lane ∷ []) (6 ∷ []) [] → ⊥

-- two lanes have two callers
abbrev pub NoSharedCaller : Type 0
NoSharedCaller = IsMerge [] (idle_lane ∷ idle_lane ∷ []) (6 ∷ 6 ∷ []) [] → ⊥

-- if the pin of a valuation is refused, nothing else answers its line
abbrev pub RefusedMerge : Type 0
RefusedMerge =
    IsMerge (turn 6 (PinAt 2) (PinRefused (Ahead 1)) ∷ []) (record { number = 2; lines = Value (pos 18628) (Position 2) 1 ∷ [] } ∷ [])
    (6 ∷ []) []

-- and one at a position pins there
abbrev pub NoOtherPosition : Type 0
NoOtherPosition =
    IsMerge (turn 6 (PinAt 1) (PinRefused (Trimmed 2)) ∷ []) (record { number = 2; lines = Value (pos 18628) (Position 2) 1 ∷ [] } ∷ [])
    (6 ∷ []) [] → ⊥
