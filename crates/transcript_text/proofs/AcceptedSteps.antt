-- The accepted lines that are told of a run are the accepted commands of its history, in order
use Rattle.transcript_text.proofs.Names.{◌≡◌, ℕ, zero, suc, ◌+◌, ◌<◌, ◌≤◌, Bool, true, false, cond, List, [], ◌∷◌, ◌++◌, length, map, take, Some, refl, ap, sym, ◌∙◌, subst, inl, inr, arith, slice_get, cons_option, count_by, enumerate_from, cond-false, cond-true, false≢true, Dated, AreRising, Command, Call, PostCall, Pin, PinAt, Read, Unpin, TrimCall, Entry, Reply, Line, accepted_by, accepted_of, AnAccepted, ARefused, DiskFault, NoMemory, accepted_lines, tells_accepted, IsOutcome, TranscriptLine, Outcome, Posted, Trimmed, Valued, ValueRefused, ValueNoMemory, Has, front_back}
use Rattle.std.proofs.lemmas.List.{append_assoc, take_at}
use Rattle.std.proofs.lemmas.List.Elements.{filter_map-append}
use Rattle.std.proofs.lemmas.List.Sums.{sum_by-cons}
use Rattle.policy_types.specs.declared.entry.Reply.TheVariants.{Accepted, Refused, Faulted, Pinned, PinRefused, Slice, Unpinned, Floor, Blank}
use Rattle.policy_types.specs.declared.script.Line.TheVariants.{Post, Value, Trim}
use Rattle.transcript_text.proofs.PlaceSteps.{above, counted, counted_below, places, places_rise, rest_rises, rises, rising_alike}

-- whether a turn was an accepted posting
abbrev pub is_acceptance : Call → Reply → Bool
is_acceptance (PostCall command) (Accepted position) = true
is_acceptance _ _ = false

abbrev pub accepts : Entry → Bool
accepts entry = is_acceptance entry.call entry.reply

one_more : (call : Call) (reply : Reply) (commands : List Command) → length (cons_option (accepted_by call reply) commands) ≡ cond (is_acceptance call reply) 1 0 + length commands
one_more (PostCall command) (Accepted position) commands = omega arith
one_more (PostCall command) (Refused refusal) commands = omega arith
one_more (PostCall command) (Faulted count) commands = omega arith
one_more (PostCall command) (Pinned position policies) commands = omega arith
one_more (PostCall command) (PinRefused refusal) commands = omega arith
one_more (PostCall command) (Slice policies) commands = omega arith
one_more (PostCall command) Unpinned commands = omega arith
one_more (PostCall command) (Floor floor) commands = omega arith
one_more (PostCall command) Blank commands = omega arith
one_more Pin reply commands = omega arith
one_more (PinAt p) reply commands = omega arith
one_more (Read pin first) reply commands = omega arith
one_more (Unpin pin) reply commands = omega arith
one_more TrimCall reply commands = omega arith

pub accepted_counted : (history : List Entry) → length (accepted_of history) ≡ count_by accepts history
accepted_counted [] = refl
accepted_counted (entry ∷ history) =
    let first = one_more entry.call entry.reply (accepted_of history) in
    let rest = accepted_counted history in
    let whole = sum_by-cons (λ (e : Entry). cond (accepts e) 1 0) entry history in
    omega (arith, first, rest, whole)

-- what is told of a posting tells its reply
pub accepted_told : (command : Command) (reply : Reply) (outcome : Outcome) (commands : List Command) (basis : List Dated)
    → IsOutcome commands basis (Post command) reply outcome → is_acceptance (PostCall command) reply ≡ tells_accepted outcome
accepted_told command reply (Posted (AnAccepted position)) commands basis told = ap (is_acceptance (PostCall command)) told
accepted_told command reply (Posted (ARefused refusal)) commands basis told = ap (is_acceptance (PostCall command)) told
accepted_told command reply (Posted (DiskFault count)) commands basis told = ap (is_acceptance (PostCall command)) told
accepted_told command reply (Posted (NoMemory lack)) commands basis told = ap (is_acceptance (PostCall command)) told
accepted_told command reply (Trimmed floor) commands basis told = absurd told
accepted_told command reply (Valued valuation) commands basis told = absurd told
accepted_told command reply (ValueRefused refusal) commands basis told = absurd told
accepted_told command reply (ValueNoMemory lack) commands basis told = absurd told

-- no other line is told to be accepted
pub posting_told : (line : Line) (reply : Reply) (outcome : Outcome) (commands : List Command) (basis : List Dated)
    → IsOutcome commands basis line reply outcome → tells_accepted outcome ≡ true → (command : Command) × (line ≡ Post command)
posting_told (Post command) reply outcome commands basis told accepted = (command, refl)
posting_told Trim reply (Posted answer) commands basis told accepted = absurd told
posting_told (Value on at workers) reply (Posted answer) commands basis told accepted = absurd told
posting_told line reply (Trimmed floor) commands basis told accepted = absurd (false≢true accepted)
posting_told line reply (Valued valuation) commands basis told accepted = absurd (false≢true accepted)
posting_told line reply (ValueRefused refusal) commands basis told accepted = absurd (false≢true accepted)
posting_told line reply (ValueNoMemory lack) commands basis told accepted = absurd (false≢true accepted)

-- an accepted posting posts
pub posts_accepted : (call : Call) (reply : Reply) → is_acceptance call reply ≡ true → (command : Command) × (call ≡ PostCall command)
posts_accepted (PostCall command) reply accepted = (command, refl)
posts_accepted Pin reply accepted = absurd (false≢true accepted)
posts_accepted (PinAt p) reply accepted = absurd (false≢true accepted)
posts_accepted (Read pin first) reply accepted = absurd (false≢true accepted)
posts_accepted (Unpin pin) reply accepted = absurd (false≢true accepted)
posts_accepted TrimCall reply accepted = absurd (false≢true accepted)

-- an element beside its place
pub enumerated : {A : Type 0} (n : ℕ) (xs : List A) (k : ℕ) (x : A) → slice_get xs k ≡ Some x → Has (enumerate_from n xs) (n + k, x)
enumerated n [] k x there = cc
enumerated n (y ∷ ys) zero x there = inl (let same : y ≡ x = cc in let place : n ≡ n + 0 = omega arith in λ i. (place i, same i))
enumerated {A} n (y ∷ ys) (suc k) x there =
    let place : (n + 1) + k ≡ n + suc k = omega arith in
    inr (subst (λ (m : ℕ). Has (enumerate_from (n + 1) ys) (m, x)) place (enumerated (n + 1) ys k x there))

-- the turns of the lines that are told to be accepted
abbrev pub accepted_turns : List TranscriptLine → List ℕ
accepted_turns [] = []
accepted_turns (line ∷ lines) = cond (tells_accepted line.outcome) (line.turn ∷ accepted_turns lines) (accepted_turns lines)

with_one : (line : TranscriptLine) (lines : List TranscriptLine) → tells_accepted line.outcome ≡ true
    → accepted_turns (line ∷ lines) ≡ line.turn ∷ accepted_turns lines
with_one line lines is = cond-true (tells_accepted line.outcome) (line.turn ∷ accepted_turns lines) (accepted_turns lines) is

without : (line : TranscriptLine) (lines : List TranscriptLine) → tells_accepted line.outcome ≡ false
    → accepted_turns (line ∷ lines) ≡ accepted_turns lines
without line lines is = cond-false (tells_accepted line.outcome) (line.turn ∷ accepted_turns lines) (accepted_turns lines) is

-- whether a line is told to be accepted, and then what follows of the lines with it
by_telling : {P : Type 0} (line : TranscriptLine) → (tells_accepted line.outcome ≡ true → P) → (tells_accepted line.outcome ≡ false → P) → P
by_telling {P} line told untold = by (tells_accepted line.outcome) refl
  where
    by : (b : Bool) → tells_accepted line.outcome ≡ b → P
    by true is = told is
    by false is = untold is

turns_append : (front back : List TranscriptLine) → accepted_turns (front ++ back) ≡ accepted_turns front ++ accepted_turns back
turns_append [] back = refl
turns_append (line ∷ front) back =
    let rest = turns_append front back in
    by_telling line
    (λ has_told. with_one line (front ++ back) has_told ∙ ap (λ (ns : List ℕ). line.turn ∷ ns) rest
    ∙ ap (λ (ns : List ℕ). ns ++ accepted_turns back) (sym (with_one line front has_told)))
    (λ untold. without line (front ++ back) untold ∙ rest ∙ ap (λ (ns : List ℕ). ns ++ accepted_turns back) (sym (without line front untold)))

pub split_turns : (before after : List TranscriptLine) (line : TranscriptLine) → tells_accepted line.outcome ≡ true
    → accepted_turns (before ++ line ∷ after) ≡ accepted_turns before ++ line.turn ∷ accepted_turns after
split_turns before after line is =
    turns_append before (line ∷ after) ∙ ap (λ (ns : List ℕ). accepted_turns before ++ ns) (with_one line after is)

pub many_turns : (lines : List TranscriptLine) → length (accepted_turns lines) ≡ accepted_lines lines
many_turns [] = refl
many_turns (line ∷ lines) =
    let rest = many_turns lines in
    let whole = sum_by-cons (λ (one : TranscriptLine). cond (tells_accepted one.outcome) 1 0) line lines in
    by_telling line
    (λ has_told. let worth = ap {B = ℕ} (λ (b : Bool). cond b 1 0) has_told in let long = ap length (with_one line lines has_told) in omega (arith, rest, whole, worth, long))
    (λ untold. let worth = ap {B = ℕ} (λ (b : Bool). cond b 1 0) untold in let long = ap length (without line lines untold) in omega (arith, rest, whole, worth, long))

pub of_turns : (lines : List TranscriptLine) (n : ℕ) → Has (accepted_turns lines) n
    → (line : TranscriptLine) × Has lines line × (line.turn ≡ n) × (tells_accepted line.outcome ≡ true)
of_turns [] n has = absurd has
of_turns (line ∷ lines) n has = by_telling line
    (λ has_told. first has_told (subst (λ (ns : List ℕ). Has ns n) (with_one line lines has_told) has) (λ there. of_turns lines n there))
    (λ untold. later (of_turns lines n (subst (λ (ns : List ℕ). Has ns n) (without line lines untold) has)))
  where
    later : ((one : TranscriptLine) × Has lines one × (one.turn ≡ n) × (tells_accepted one.outcome ≡ true))
        → (one : TranscriptLine) × Has (line ∷ lines) one × (one.turn ≡ n) × (tells_accepted one.outcome ≡ true)
    later found = (found.0, inr found.1, found.2, found.3)

    first : tells_accepted line.outcome ≡ true → Has (line.turn ∷ accepted_turns lines) n
        → (Has (accepted_turns lines) n → (one : TranscriptLine) × Has lines one × (one.turn ≡ n) × (tells_accepted one.outcome ≡ true))
        → (one : TranscriptLine) × Has (line ∷ lines) one × (one.turn ≡ n) × (tells_accepted one.outcome ≡ true)
    first has_told (inl same) rest = (line, inl refl, same, has_told)
    first has_told (inr there) rest = later (rest there)

pub has_turns : (lines : List TranscriptLine) (line : TranscriptLine) → Has lines line → tells_accepted line.outcome ≡ true
    → Has (accepted_turns lines) line.turn
has_turns [] line has is = absurd has
has_turns (one ∷ lines) line (inl same) is =
    subst (λ (ns : List ℕ). Has ns line.turn) (sym (with_one one lines (ap (λ (l : TranscriptLine). tells_accepted l.outcome) same ∙ is)))
    (inl (ap (λ (l : TranscriptLine). l.turn) same))
has_turns (one ∷ lines) line (inr later) is =
    let rest = has_turns lines line later is in
    by_telling one
    (λ has_told. subst (λ (ns : List ℕ). Has ns line.turn) (sym (with_one one lines has_told)) (inr rest))
    (λ untold. subst (λ (ns : List ℕ). Has ns line.turn) (sym (without one lines untold)) rest)

among : (lines : List TranscriptLine) (n : ℕ) → Has (accepted_turns lines) n → Has (map (λ (line : TranscriptLine). line.turn) lines) n
among [] n has = absurd has
among (line ∷ lines) n has = by_telling line
    (λ has_told. first (subst (λ (ns : List ℕ). Has ns n) (with_one line lines has_told) has) (λ there. among lines n there))
    (λ untold. inr (among lines n (subst (λ (ns : List ℕ). Has ns n) (without line lines untold) has)))
  where
    first : Has (line.turn ∷ accepted_turns lines) n
        → (Has (accepted_turns lines) n → Has (map (λ (one : TranscriptLine). one.turn) lines) n)
        → Has (map (λ (one : TranscriptLine). one.turn) (line ∷ lines)) n
    first (inl same) rest = inl same
    first (inr there) rest = inr (rest there)

pub turns_rise : (lines : List TranscriptLine) → AreRising (map (λ (line : TranscriptLine). line.turn) lines) → AreRising (accepted_turns lines)
turns_rise [] rising = tt
turns_rise (line ∷ lines) rising =
    let behind = map (λ (one : TranscriptLine). one.turn) lines in
    let rest = turns_rise lines (rest_rises line.turn behind rising) in
    by_telling line
    (λ has_told. subst AreRising (sym (with_one line lines has_told))
    (rises line.turn (accepted_turns lines) rest (λ m has. above line.turn behind rising m (among lines m has))))
    (λ untold. subst AreRising (sym (without line lines untold)) rest)

-- of lines that are told by rising turns, those up to one have no later turn than it, and those after it later ones
module _ (after : List TranscriptLine) (line : TranscriptLine) where
  turn_in : (before : List TranscriptLine) → Has (map (λ (one : TranscriptLine). one.turn) (before ++ line ∷ after)) line.turn
  turn_in [] = inl refl
  turn_in (one ∷ before) = inr (turn_in before)

  turns_upto : (before : List TranscriptLine) → AreRising (map (λ (one : TranscriptLine). one.turn) (before ++ line ∷ after))
      → (m : ℕ) → Has (accepted_turns (before ++ line ∷ [])) m → m ≤ line.turn
  turns_upto [] rising m has =
      by_telling line (λ has_told. only (subst (λ (ns : List ℕ). Has ns m) (with_one line [] has_told) has))
      (λ untold. absurd (subst (λ (ns : List ℕ). Has ns m) (without line [] untold) has))
    where
      only : Has (line.turn ∷ []) m → m ≤ line.turn
      only (inl same) = omega (arith, same)
      only (inr none) = absurd none
  turns_upto (one ∷ before) rising m has =
      let behind : List ℕ = map (λ (l : TranscriptLine). l.turn) (before ++ line ∷ after) in
      let low = above one.turn behind rising line.turn (turn_in before) in
      by_telling one
      (λ has_told. first low (subst (λ (ns : List ℕ). Has ns m) (with_one one (before ++ line ∷ []) has_told) has)
      (λ there. turns_upto before (rest_rises one.turn behind rising) m there))
      (λ untold. turns_upto before (rest_rises one.turn behind rising) m
      (subst (λ (ns : List ℕ). Has ns m) (without one (before ++ line ∷ []) untold) has))
    where
      first : one.turn < line.turn → Has (one.turn ∷ accepted_turns (before ++ line ∷ [])) m
          → (Has (accepted_turns (before ++ line ∷ [])) m → m ≤ line.turn) → m ≤ line.turn
      first low (inl same) rest = omega (arith, same, low)
      first low (inr there) rest = rest there

  later_turns : (before : List TranscriptLine) → AreRising (map (λ (one : TranscriptLine). one.turn) (before ++ line ∷ after))
      → (m : ℕ) → Has (accepted_turns after) m → line.turn < m
  later_turns [] rising m has = above line.turn (map (λ (l : TranscriptLine). l.turn) after) rising m (among after m has)
  later_turns (one ∷ before) rising m has =
      later_turns before (rest_rises one.turn (map (λ (l : TranscriptLine). l.turn) (before ++ line ∷ after)) rising) m has

-- a front of the turns has a front of the accepted commands
front_of : (history : List Entry) (m : ℕ) → accepted_of (take m history) ≡ take (length (accepted_of (take m history))) (accepted_of history)
front_of history m =
    let parts = front_back m history in
    let front = accepted_of (take m history) in
    let split : accepted_of history ≡ front ++ accepted_of parts.0 =
    ap accepted_of parts.1 ∙ filter_map-append (λ (entry : Entry). accepted_by entry.call entry.reply) (take m history) parts.0 in
    sym (ap (take (length front)) split ∙ take_at front (accepted_of parts.0) (length front) refl)

-- Where the lines are told by rising turns, and tell of just the turns that were accepted postings.
module _ (history : List Entry) (lines : List TranscriptLine) (rising : AreRising (map (λ (line : TranscriptLine). line.turn) lines))
    (told_place : (line : TranscriptLine) → Has lines line → tells_accepted line.outcome ≡ true → Has (places accepts 0 history) line.turn)
    (place_told : (n : ℕ) → Has (places accepts 0 history) n → Has (accepted_turns lines) n) where
  same_places : accepted_turns lines ≡ places accepts 0 history
  same_places =
      rising_alike (accepted_turns lines) (places accepts 0 history) (turns_rise lines rising) (places_rise accepts 0 history)
      (λ n has. let found = of_turns lines n has in
      subst (λ (k : ℕ). Has (places accepts 0 history) k) found.2 (told_place found.0 found.1 found.3))
      place_told

  -- up to the turn of a line as many commands were accepted as the lines up to it tell
  pub accepted_upto : (before after : List TranscriptLine) (line : TranscriptLine) → lines ≡ before ++ line ∷ after
      → accepted_of (take (line.turn + 1) history) ≡ take (accepted_lines (before ++ line ∷ [])) (accepted_of history)
  accepted_upto before after line split =
      let upto = before ++ line ∷ [] in
      let there : places accepts 0 history ≡ accepted_turns upto ++ accepted_turns after =
      sym same_places ∙ ap accepted_turns (split ∙ sym (append_assoc before (line ∷ []) after)) ∙ turns_append upto after in
      let up = subst (λ (ls : List TranscriptLine). AreRising (map (λ (one : TranscriptLine). one.turn) ls)) split rising in
      let many = counted_below accepts 0 history (accepted_turns upto) (accepted_turns after) (line.turn + 1) there
      (λ m has. let low = turns_upto after line before up m has in omega (arith, low))
      (λ m has. let high = later_turns after line before up m has in omega (arith, high)) in
      let commands = accepted_counted (take (line.turn + 1) history) in
      let told = many_turns upto in
      let long : length (accepted_of (take (line.turn + 1) history)) ≡ accepted_lines upto = omega (arith, many, commands, told) in
      front_of history (line.turn + 1) ∙ ap (λ (k : ℕ). take k (accepted_of history)) long

  pub accepted_in_all : accepted_lines lines ≡ length (accepted_of history)
  accepted_in_all =
      let long = ap length same_places in
      let told = many_turns lines in
      let all = counted accepts 0 history in
      let commands = accepted_counted history in
      omega (arith, long, told, all, commands)
