-- How the turns of several lanes make one history: each lane's lines are answered once, in order
use Rattle.std.specs.Prelude.{◌≡◌, ℕ, ◌+◌, ◌*◌, ◌/◌, ◌==◌, nat_eq, map, List, [], ◌∷◌, ◌++◌, take}
use Rattle.policy_machine.specs.Names.{AllByRecursion, Contains, IsDistinct, enumerate_from, filter, range_with_len, Call, Post, Pin, PinAt, Read, Unpin, TrimCall, Reply, Pinned, PinRefused, Entry, Now, Position, Lane}
use Rattle.policy_types.specs.declared.entry.At.{At}
use Rattle.policy_types.specs.declared.script.Line.{Line}
use Rattle.policy_types.specs.declared.script.Line.TheVariants.{Post as PostLine, Value, Trim}
use Rattle.policy_machine.specs.History.{policies_per_read}

-- a turn, with its place in the history
abbrev pub Placed : Type 0
Placed = ℕ × Entry

-- the turns of one caller, each with its place in the history
abbrev pub turns_of : List Entry → ℕ → List Placed
turns_of history caller = filter (λ placed. placed.1.caller == caller) (enumerate_from 0 history)

abbrev pub pin_call : At → Call
pin_call Now = Pin
pin_call (Position p) = PinAt p

-- the reads of a pin: one from each multiple of 256 that is below the number of its policies, in order
abbrev pub reads_of : ℕ → ℕ → List Call
reads_of pin policies =
    map (λ k. Read pin (policies_per_read * k)) (range_with_len 0 ((policies + 255) / policies_per_read))

-- what follows a valuation's pin. If the pin was refused, nothing follows. Else the reads follow, all of them unless
-- the valuation was refused memory and its pin is in the list of those; and then the pin is given up
abbrev pub FollowsPin : List ℕ → ℕ → Reply → List Call → Type 0
FollowsPin dry pin (PinRefused refusal) calls = calls ≡ []
FollowsPin dry pin (Pinned position policies) calls =
    (k : ℕ) × (calls ≡ take k (reads_of pin policies) ++ Unpin pin ∷ [])
    × ((Contains dry pin → ⊥) → take k (reads_of pin policies) ≡ reads_of pin policies)
FollowsPin dry pin _ calls = ⊥

-- the turns answer the line
abbrev pub AnswersLine : List ℕ → Line → List Placed → Type 0
AnswersLine dry (PostLine command) (turn ∷ []) = turn.1.call ≡ Post command
AnswersLine dry Trim (turn ∷ []) = turn.1.call ≡ TrimCall
AnswersLine dry (Value on at workers) (turn ∷ rest) =
    (turn.1.call ≡ pin_call at) × FollowsPin dry turn.0 turn.1.reply (map (λ later. later.1.call) rest)
AnswersLine _ _ _ = ⊥

-- the turns are the answers to the lines, in order
abbrev pub AnswersLines : List ℕ → List Line → List Placed → Type 0
AnswersLines dry [] turns = turns ≡ []
AnswersLines dry (line ∷ lines) turns =
    (first : List Placed) × ((rest : List Placed) × (turns ≡ first ++ rest) × AnswersLine dry line first × AnswersLines dry lines rest)

-- each caller answers the lines of its lane
abbrev pub AnswersLanes : List ℕ → List Entry → List Lane → List ℕ → Type 0
AnswersLanes dry history [] [] = Unit {0}
AnswersLanes dry history (lane ∷ lanes) (caller ∷ callers) =
    AnswersLines dry lane.lines (turns_of history caller) × AnswersLanes dry history lanes callers
AnswersLanes _ _ _ _ = ⊥

-- the history is that of the lanes' callers: every line of every lane is answered once, in the order of its lane
pub record IsMerge (history : List Entry) (lanes : List Lane) (callers dry : List ℕ) : Type 0 where
  pub distinct : IsDistinct nat_eq callers
  pub theirs : AllByRecursion (λ entry. Contains callers entry.caller) history
  pub answers : AnswersLanes dry history lanes callers
