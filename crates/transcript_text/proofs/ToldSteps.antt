-- What is reported of a line, against its first reply
use Rattle.transcript_text.proofs.Names.{◌≡◌, ◌⊎◌, ℕ, ◌==◌, true, false, List, [], ◌∷◌, ◌++◌, map, take, refl, ap, sym, ◌∙◌, subst, inl, inr, AllByRecursion, enumerate_from, eq-eqb, false≢true, Dated, IsValid, Command, PostCall, Entry, Reply, Blank, Faulted, Line, Opening, accepted_by, accepted_of, commands_after, reply_of, Answer, Accepted, Refused, DiskFault, NoMemory, AnsweredLine, AreOfLanes, lines_by, turns_in, IsOutcome, lacked_memory, Outcome, Posted, Trimmed, Valued, ValueRefused, ValueNoMemory, Has, front_back, has_filter, has_flat_map, of_filter, of_flat_map, has_faulted, is_faulted, lacks_memory, IsToldAnswer, IsWritableOutcome}
use Rattle.watcher_set.specs.Evidence.{a_lack}
use Rattle.std.proofs.lemmas.List.Elements.{filter_map-append}
use Rattle.policy_types.specs.declared.script.Line.TheVariants.{Post, Value, Trim}
use Rattle.policy_types.specs.declared.script.Lane.{Lane}
use Rattle.policy_machine.specs.Merge.{AnswersLine, Placed, turns_of}
use Rattle.turn_lock.specs.History.{entries_of}
use Rattle.turn_lock.specs.Passes.{Page}
use Rattle.lane_runner.specs.Lanes.{IsRightLine}
use Rattle.program_endings.proofs.ReplyNames.{IsAnswered, IsPinned, IsUnfaulted}
use Rattle.policy_value.specs.declared.worth.Measure.TheVariants.{Terminal}
use Rattle.program_endings.proofs.BlockSteps.{block_writable}

-- the turns of an answered line are those of a caller
pub line_turn : (answered : List AnsweredLine) (history : List Entry) (lanes : List Lane) (callers : List ℕ) (one : AnsweredLine) (turn : Placed)
    → AreOfLanes answered history lanes callers → Has (map (λ (lane : Lane). lane.number) lanes) one.clerk → Has answered one → Has (turns_in one) turn
    → (caller : ℕ) × Has (turns_of history caller) turn
line_turn answered history [] callers one turn are clerk has there = absurd clerk
line_turn answered history (lane ∷ lanes) [] one turn are clerk has there = absurd are
line_turn answered history (lane ∷ lanes) (caller ∷ callers) one turn are (inl same) has there =
    let own : (one.clerk == lane.number) ≡ true = eq-eqb one.clerk lane.number (sym same) in
    let by_lane = has_filter (λ (other : AnsweredLine). other.clerk == lane.number) answered one own has in
    (caller, subst (λ (ts : List Placed). Has ts turn) are.0.1 (has_flat_map turns_in (lines_by lane.number answered) one turn by_lane there))
line_turn answered history (lane ∷ lanes) (caller ∷ callers) one turn are (inr later) has there =
    line_turn answered history lanes callers one turn are.1 later has there

-- each entry of a caller is, at its place, a turn of an answered line
pub turn_line : (answered : List AnsweredLine) (history : List Entry) (lanes : List Lane) (callers : List ℕ) (n : ℕ) (entry : Entry)
    → AreOfLanes answered history lanes callers → Has callers entry.caller → Has (enumerate_from 0 history) (n, entry)
    → (one : AnsweredLine) × Has answered one × Has (turns_in one) (n, entry)
turn_line answered history [] [] n entry are caller has = absurd caller
turn_line answered history [] (other ∷ callers) n entry are caller has = absurd are
turn_line answered history (lane ∷ lanes) [] n entry are caller has = absurd caller
turn_line answered history (lane ∷ lanes) (other ∷ callers) n entry are (inl same) has =
    let turn : Has (turns_of history other) (n, entry) =
    has_filter (λ (turn : Placed). turn.1.caller == other) (enumerate_from 0 history) (n, entry) (eq-eqb entry.caller other (sym same)) has in
    let found = of_flat_map turns_in (lines_by lane.number answered) (n, entry) (subst (λ (ts : List Placed). Has ts (n, entry)) (sym are.0.1) turn) in
    (found.0, (of_filter (λ (one : AnsweredLine). one.clerk == lane.number) answered found.0 found.1).0, found.2)
turn_line answered history (lane ∷ lanes) (other ∷ callers) n entry are (inr later) has =
    turn_line answered history lanes callers n entry are.1 later has

-- each caller's number of its page
pub page_numbers : (history : List Entry) (ns : List ℕ) → map (λ (page : Page). page.0) (map (λ n. (n, entries_of history n)) ns) ≡ ns
page_numbers history [] = refl
page_numbers history (n ∷ ns) = ap (λ more. n ∷ more) (page_numbers history ns)

-- a prefix of valid commands is valid
pub valid_front : (opening : Opening) (history : List Entry) (k : ℕ) → AllByRecursion IsValid (commands_after opening history)
    → AllByRecursion IsValid (commands_after opening (take k history))
valid_front opening history k valid =
    let parts = front_back k history in
    let split : accepted_of history ≡ accepted_of (take k history) ++ accepted_of parts.0 =
    ap accepted_of parts.1 ∙ filter_map-append (λ (entry : Entry). accepted_by entry.call entry.reply) (take k history) parts.0 in
    front opening.commands (accepted_of (take k history)) (accepted_of parts.0)
    (subst (λ (cs : List Command). AllByRecursion IsValid (opening.commands ++ cs)) split valid)
  where
    front : (xs ys zs : List Command) → AllByRecursion IsValid (xs ++ (ys ++ zs)) → AllByRecursion IsValid (xs ++ ys)
    front [] [] zs all = tt
    front [] (y ∷ ys) zs all = (all.0, front [] ys zs all.1)
    front (x ∷ xs) ys zs all = (all.0, front xs ys zs all.1)

pub outcome_writable : (line : Line) (reply : Reply) (outcome : Outcome) (commands : List Command) (basis : List Dated)
    → IsOutcome commands basis line reply outcome → IsRightLine line
    → ((command : Command) (answer : Answer) → line ≡ Post command → reply ≡ reply_of answer → IsToldAnswer answer)
    → IsWritableOutcome line outcome
outcome_writable (Post command) reply (Posted answer) commands basis told right can = can command answer refl told
outcome_writable Trim reply (Trimmed floor) commands basis told right can = tt
outcome_writable (Value on at workers) reply (ValueRefused refusal) commands basis told right can = right.0
outcome_writable (Value on at workers) reply (Valued valuation) commands basis (position, (policies, pinned, snapshot)) right can =
    (right.0, block_writable commands basis on Terminal position valuation.value snapshot)
outcome_writable (Value on at workers) reply (ValueNoMemory lack) commands basis told right can = right.0
outcome_writable (Post command) reply (Trimmed floor) commands basis told right can = absurd told
outcome_writable (Post command) reply (Valued valuation) commands basis told right can = absurd told
outcome_writable (Post command) reply (ValueRefused refusal) commands basis told right can = absurd told
outcome_writable (Post command) reply (ValueNoMemory lack) commands basis told right can = absurd told
outcome_writable Trim reply (Posted answer) commands basis told right can = absurd told
outcome_writable Trim reply (Valued valuation) commands basis told right can = absurd told
outcome_writable Trim reply (ValueRefused refusal) commands basis told right can = absurd told
outcome_writable Trim reply (ValueNoMemory lack) commands basis told right can = absurd told
outcome_writable (Value on at workers) reply (Posted answer) commands basis told right can = absurd told
outcome_writable (Value on at workers) reply (Trimmed floor) commands basis told right can = absurd told

-- a valuation that is said to have found no memory was pinned
pub lacked_pin : (line : Line) (reply : Reply) (outcome : Outcome) (commands : List Command) (basis : List Dated) → IsOutcome commands basis line reply outcome
    → lacked_memory outcome ≡ true → IsPinned reply
lacked_pin (Value on at workers) reply (ValueNoMemory lack) commands basis (position, (policies, pinned)) lacked = (position, policies, pinned)
lacked_pin line reply (Posted answer) commands basis told lacked = absurd (false≢true lacked)
lacked_pin line reply (Trimmed floor) commands basis told lacked = absurd (false≢true lacked)
lacked_pin line reply (Valued valuation) commands basis told lacked = absurd (false≢true lacked)
lacked_pin line reply (ValueRefused refusal) commands basis told lacked = absurd (false≢true lacked)
lacked_pin (Post command) reply (ValueNoMemory lack) commands basis told lacked = absurd told
lacked_pin Trim reply (ValueNoMemory lack) commands basis told lacked = absurd told

-- what is reported of a posting that the disk failed in, and of one that it didn't
pub told_fault : (line : Line) (reply : Reply) (outcome : Outcome) (commands : List Command) (basis : List Dated) → IsOutcome commands basis line reply outcome
    → has_faulted outcome ≡ true → (command : Command) × ((count : ℕ) × (line ≡ Post command) × (reply ≡ Faulted count))
told_fault (Post command) reply (Posted (DiskFault count)) commands basis told failed = (command, (count, refl, told))
told_fault (Post command) reply (Posted (Accepted position)) commands basis told failed = absurd (false≢true failed)
told_fault (Post command) reply (Posted (Refused refusal)) commands basis told failed = absurd (false≢true failed)
told_fault (Post command) reply (Posted (NoMemory lack)) commands basis told failed = absurd (false≢true failed)
told_fault Trim reply (Posted answer) commands basis told failed = absurd told
told_fault (Value on at workers) reply (Posted answer) commands basis told failed = absurd told
told_fault line reply (Trimmed floor) commands basis told failed = absurd (false≢true failed)
told_fault line reply (Valued valuation) commands basis told failed = absurd (false≢true failed)
told_fault line reply (ValueRefused refusal) commands basis told failed = absurd (false≢true failed)
told_fault line reply (ValueNoMemory lack) commands basis told failed = absurd (false≢true failed)

-- what is reported of a posting is its reply
unfaulted_if_told : (answer : Answer) (reply : Reply) → reply ≡ reply_of answer → is_faulted answer ≡ false → IsUnfaulted reply
unfaulted_if_told (Accepted position) reply is whole = subst IsUnfaulted (sym is) refl
unfaulted_if_told (Refused refusal) reply is whole = subst IsUnfaulted (sym is) refl
unfaulted_if_told (DiskFault count) reply is whole = absurd (false≢true (sym whole))
unfaulted_if_told (NoMemory lack) reply is whole = subst IsUnfaulted (sym is) refl

pub told_unfaulted : (command : Command) (reply : Reply) (outcome : Outcome) (commands : List Command) (basis : List Dated)
    → IsOutcome commands basis (Post command) reply outcome → has_faulted outcome ≡ false → IsUnfaulted reply
told_unfaulted command reply (Posted answer) commands basis told whole = unfaulted_if_told answer reply told whole
told_unfaulted command reply (Trimmed floor) commands basis told whole = absurd told
told_unfaulted command reply (Valued valuation) commands basis told whole = absurd told
told_unfaulted command reply (ValueRefused refusal) commands basis told whole = absurd told
told_unfaulted command reply (ValueNoMemory lack) commands basis told whole = absurd told

answered_if_told : (answer : Answer) (reply : Reply) → reply ≡ reply_of answer → is_faulted answer ≡ false → lacks_memory (Posted answer) ≡ false
    → IsAnswered reply
answered_if_told (Accepted position) reply is whole found = subst IsAnswered (sym is) (refl, λ no. cc)
answered_if_told (Refused refusal) reply is whole found = subst IsAnswered (sym is) (refl, λ no. cc)
answered_if_told (DiskFault count) reply is whole found = absurd (false≢true (sym whole))
answered_if_told (NoMemory lack) reply is whole found = absurd (false≢true (sym found))

pub told_answered : (command : Command) (reply : Reply) (outcome : Outcome) (commands : List Command) (basis : List Dated)
    → IsOutcome commands basis (Post command) reply outcome → has_faulted outcome ≡ false → lacks_memory outcome ≡ false → IsAnswered reply
told_answered command reply (Posted answer) commands basis told whole found = answered_if_told answer reply told whole found
told_answered command reply (Trimmed floor) commands basis told whole found = absurd told
told_answered command reply (Valued valuation) commands basis told whole found = absurd told
told_answered command reply (ValueRefused refusal) commands basis told whole found = absurd told
told_answered command reply (ValueNoMemory lack) commands basis told whole found = absurd told

-- memory was refused for a posting, or for a valuation
pub lacked_which : (outcome : Outcome) → lacks_memory outcome ≡ true → (outcome ≡ Posted (NoMemory a_lack)) ⊎ (lacked_memory outcome ≡ true)
lacked_which (Posted (NoMemory lack)) lacked = inl refl
lacked_which (ValueNoMemory lack) lacked = inr refl
lacked_which (Posted (Accepted position)) lacked = absurd (false≢true lacked)
lacked_which (Posted (Refused refusal)) lacked = absurd (false≢true lacked)
lacked_which (Posted (DiskFault count)) lacked = absurd (false≢true lacked)
lacked_which (Trimmed floor) lacked = absurd (false≢true lacked)
lacked_which (Valued valuation) lacked = absurd (false≢true lacked)
lacked_which (ValueRefused refusal) lacked = absurd (false≢true lacked)

pub not_lacked : (outcome : Outcome) → lacks_memory outcome ≡ false → lacked_memory outcome ≡ false
not_lacked (Posted answer) found = refl
not_lacked (Trimmed floor) found = refl
not_lacked (Valued valuation) found = refl
not_lacked (ValueRefused refusal) found = refl
not_lacked (ValueNoMemory lack) found = absurd (false≢true (sym found))

pub told_blank : (line : Line) (reply : Reply) (commands : List Command) (basis : List Dated) → IsOutcome commands basis line reply (Posted (NoMemory a_lack))
    → reply ≡ Blank
told_blank (Post command) reply commands basis told = told
told_blank Trim reply commands basis told = absurd told
told_blank (Value on at workers) reply commands basis told = absurd told

-- the turn of a posting's line
pub post_call : (dry : List ℕ) (line : Line) (turn : Placed) (rest : List Placed) (command : Command) → AnswersLine dry line (turn ∷ rest)
    → line ≡ Post command → turn.1.call ≡ PostCall command
post_call dry (Post other) turn [] command is same = (let one : other ≡ command = cc in is ∙ ap PostCall one)
post_call dry (Post other) turn (second ∷ rest) command is same = absurd is
post_call dry (Value on at workers) turn rest command is same = absurd (cc)
post_call dry Trim turn rest command is same = absurd (cc)
