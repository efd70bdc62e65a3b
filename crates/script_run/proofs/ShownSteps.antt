-- What is shown of the lines of a run is safe by then
use Rattle.script_run.proofs.Names.{concat, ◌≡◌, ℕ, zero, suc, ◌+◌, ◌<◌, ◌≤◌, Bool, true, false, List, [], ◌∷◌, ◌++◌, length, map, take, Option, Some, refl, ap, sym, ◌∙◌, subst, append-nil, append_assoc, length-append, arith, None, Result, slice_get, IfSome, AllByRecursion, AllZip, flat_map, Dated, TakenPiece, taken_bytes, Ghosts, SameConsumer, sent, Entry, Opens, line_texts, TranscriptLine, Unwritten, AddsBy}
use Rattle.std.proofs.lemmas.List.Sums.{sum_by-cons}
use Rattle.std.proofs.lemmas.Option.{same_Some}
use Rattle.std.specs.Prelude.{cond}
use Rattle.rtrb.specs.declared.consumer.Consumer.{Consumer}
use Rattle.rtrb.specs.declared.producer.Producer.{Producer}
use Rattle.moment_ring.specs.Ends.{ArePaired, SameOutlet, told}
use Rattle.policy_types.specs.declared.command.Command.{Command}
use Rattle.policy_machine.specs.History.{Opening, accepted_of}
use Rattle.office_state.proofs.Holdings.{HoldsAtLeast}
use Rattle.office_state.specs.Images.{AreSafeSince}
use Rattle.lane_runner.specs.AnsweredLines.{AnsweredLine}
use Rattle.lane_runner.specs.Shown.{AreShown, HasShown}
use Rattle.lane_runner.specs.Tallies.{accepted_lines, tells_accepted}
use Rattle.lane_runner.specs.Transcripts.{IsTold}
use Rattle.transcript_text.proofs.AcceptedSteps.{accepted_turns, many_turns, split_turns}
use Rattle.script_run.specs.Shown.{AreSafeWhenShown}

-- an accepted line among others is one of as many as are accepted
one_of_accepted : (lines before after : List TranscriptLine) (line : TranscriptLine) → lines ≡ before ++ line ∷ after
    → tells_accepted line.outcome ≡ true → accepted_lines before < accepted_lines lines
one_of_accepted lines before after line split is =
    let all = many_turns lines in
    let front = many_turns before in
    let whole : length (accepted_turns lines) ≡ length (accepted_turns before ++ line.turn ∷ accepted_turns after) =
    ap (λ (ls : List TranscriptLine). length (accepted_turns ls)) split ∙ ap length (split_turns before after line is) in
    let long = length-append (accepted_turns before) (line.turn ∷ accepted_turns after) in
    omega (arith, all, front, whole, long)

-- the one at a place is at most the latest
at_most : (moments : List ℕ) (latest k : ℕ) → AllByRecursion (λ m. m ≤ latest) moments → k < length moments
    → (moment : ℕ) × (slice_get moments k ≡ Some moment) × (moment ≤ latest)
at_most [] latest k all within = absurd (omega (arith, within))
at_most (m ∷ ms) latest zero all within = (m, refl, all.0)
at_most (m ∷ ms) latest (suc k) all within = at_most ms latest k all.1 (omega (arith, within))

-- Pieces that were handed on behind the lines, by the latest of their moments, show no line too soon.
module _ (text : TranscriptLine → List ℕ) (lines : List TranscriptLine) (moments : List ℕ) (latest : ℕ)
    (known : AllByRecursion (λ m. m ≤ latest) moments) (counted : length moments ≡ accepted_lines lines) where
  behind : (run more : List TakenPiece) → AreShown text run lines moments
      → AllByRecursion (λ (piece : TakenPiece). piece.since ≡ latest) more → AreShown text (more ++ run) lines moments
  behind run [] shown all = shown
  behind run (piece ∷ more) shown all = by (behind run more shown all.1)
    where
      by : AreShown text (more ++ run) lines moments → AreShown text (piece ∷ more ++ run) lines moments
      by rest [] earlier one split before after line where_is is reached =
          let same : piece ≡ one = first piece one (more ++ run) earlier split in
          let below = one_of_accepted lines before after line where_is is in
          let found = at_most moments latest (accepted_lines before) known (omega (arith, counted, below)) in
          let since : one.since ≡ latest = ap (λ (p : TakenPiece). p.since) (sym same) ∙ all.0 in
          (found.0, found.1, omega (arith, found.2, since))
        where
          first : (a b : TakenPiece) (as_ bs : List TakenPiece) → a ∷ as_ ≡ b ∷ bs → a ≡ b
          first a b as_ bs same = ap head same
            where
              head : List TakenPiece → TakenPiece
              head [] = a
              head (c ∷ cs) = c
      by rest (other ∷ later) earlier one split before after line where_is is reached =
          rest later earlier one (tails piece other (more ++ run) (later ++ one ∷ earlier) split) before after line where_is is reached
        where
          tails : (a b : TakenPiece) (as_ bs : List TakenPiece) → a ∷ as_ ≡ b ∷ bs → as_ ≡ bs
          tails a b as_ bs same = ap tail same
            where
              tail : List TakenPiece → List TakenPiece
              tail [] = []
              tail (c ∷ cs) = cs

-- what was shown of the lines, and then of what stands behind them
pub shown_whole : (text : TranscriptLine → List ℕ) (before mid now : List TakenPiece) (lines : List TranscriptLine) (moments : List ℕ)
    (latest : ℕ) (written : Result (Unit {0}) Unwritten) → HasShown text before mid lines moments latest written
    → AddsBy mid now latest → (run : List TakenPiece) × (now ≡ run ++ before) × AreShown text run lines moments
shown_whole text before mid now lines moments latest written shown more = (
  more.run ++ shown.run,
  more.added ∙ ap (λ (pieces : List TakenPiece). more.run ++ pieces) shown.added ∙ sym (append_assoc more.run shown.run before),
  behind text lines moments latest shown.latest_is shown.counted shown.run more.run shown.shown more.all,
)

-- the ends of a ring stay its ends
pub paired_on : {A P : Type 0} (outlet outlet' : Option (Producer ℕ A P)) (inlet inlet' : Consumer ℕ A P) → ArePaired outlet inlet
    → SameOutlet outlet outlet' → SameConsumer inlet inlet' → ArePaired outlet' inlet'
paired_on (Some p) (Some q) inlet inlet' paired same consumer =
    let out = same.0 in
    let into = consumer.0 in (
      into.0 ∙ paired.0 ∙ sym out.0,
      into.1 ∙ paired.1 ∙ sym out.1,
      into.2 ∙ paired.2 ∙ sym out.2,
      into.3 ∙ paired.3 ∙ sym out.3,
    )
paired_on (Some p) None inlet inlet' paired same consumer = absurd same
paired_on None other inlet inlet' paired same consumer = absurd paired

-- as many moments as commands
many_moments : {D : Type 0} (g : Ghosts D) (disk : D) (held commands : List Command) (moments : List ℕ)
    → AreSafeSince g disk held commands moments → length commands ≡ length moments
many_moments g disk held [] [] safe = refl
many_moments g disk held [] (m ∷ moments) safe = absurd safe
many_moments g disk held (c ∷ commands) [] safe = absurd safe
many_moments g disk held (c ∷ commands) (m ∷ moments) safe = ap suc (many_moments g disk (held ++ c ∷ []) commands moments safe.2)

-- since the moment at a place the commands up to it are there
since_at : {D : Type 0} (g : Ghosts D) (disk : D) (held commands : List Command) (moments : List ℕ) (k moment : ℕ)
    → AreSafeSince g disk held commands moments → slice_get moments k ≡ Some moment → (image : List ℕ)
    → g.left_since disk moment image → HoldsAtLeast (held ++ take (k + 1) commands) image
since_at g disk held [] [] k moment safe there image left = cc
since_at g disk held [] (m ∷ moments) k moment safe there image left = absurd safe
since_at g disk held (c ∷ commands) [] k moment safe there image left = absurd safe
since_at g disk held (c ∷ commands) (m ∷ moments) zero moment safe there image left =
    let same : m ≡ moment = same_Some m moment there in
    safe.1 image (subst (λ (n : ℕ). g.left_since disk n image) (sym same) left)
since_at g disk held (c ∷ commands) (m ∷ moments) (suc k) moment safe there image left =
    let long : suc (k + 1) ≡ suc k + 1 = omega arith in
    let rest = since_at g disk (held ++ c ∷ []) commands moments k moment safe.2 there image left in
    subst (λ (n : ℕ). HoldsAtLeast (held ++ take n (c ∷ commands)) image) long
    (subst (λ (cs : List Command). HoldsAtLeast cs image) (append_assoc held (c ∷ []) (take (k + 1) commands)) rest)

-- a list of which a front is known to be as long as the whole is that front
front_is_all : {A : Type 0} (front rest whole : List A) → front ++ rest ≡ whole → length front ≡ length whole → front ≡ whole
front_is_all front [] whole same long = sym (append-nil front) ∙ same
front_is_all front (x ∷ rest) whole same long =
    absurd (let all = ap length same in let sum = length-append front (x ∷ rest) in omega (arith, all, sum, long))

-- a pair among pairs
zip_split : {A B : Type 0} (R : A → B → Type 0) (xs : List A) (ys : List B) (before after : List A) (x : A) → AllZip R xs ys
    → xs ≡ before ++ x ∷ after
    → (front back : List B) × ((y : B) × (ys ≡ front ++ y ∷ back) × (length front ≡ length before) × R x y)
zip_split {A} {B} R [] ys [] after x all split = cc
zip_split {A} {B} R [] ys (b ∷ before) after x all split = cc
zip_split {A} {B} R (z ∷ xs) [] before after x all split = absurd all
zip_split {A} {B} R (z ∷ xs) (y ∷ ys) [] after x all split =
    let same : z ≡ x = ap head split in ([], ys, (y, refl, refl, subst (λ (a : A). R a y) same all.0))
  where
    head : List A → A
    head [] = z
    head (c ∷ cs) = c
zip_split {A} {B} R (z ∷ xs) (y ∷ ys) (b ∷ before) after x all split =
    let found = zip_split R xs ys before after x all.1 (ap tail split) in (
      y ∷ found.0,
      found.1,
      (found.2.0, ap (λ (bs : List B). y ∷ bs) found.2.1, ap suc found.2.2, found.2.3),
    )
  where
    tail : List A → List A
    tail [] = []
    tail (c ∷ cs) = cs

-- the text of the lines of a front
front_text : (text : TranscriptLine → List ℕ) (front back : List TranscriptLine)
    → concat (take (length front) (map text (front ++ back))) ≡ line_texts text front
front_text text [] back = refl
front_text text (line ∷ front) back = ap (λ (rest : List ℕ). text line ++ rest) (front_text text front back)

-- the texts of all lines, one after the other
pub all_texts : (text : TranscriptLine → List ℕ) (lines : List TranscriptLine)
    → concat (map text lines) ≡ flat_map text lines
all_texts text [] = refl
all_texts text (line ∷ lines) = ap (λ (rest : List ℕ). text line ++ rest) (all_texts text lines)

-- The last line told to be accepted among the lines up to one: as many are accepted as up to it, and its text begins no later
-- than that one's.
record LastAccepted (text : TranscriptLine → List ℕ) (front : List TranscriptLine) (line : TranscriptLine) : Type 0 where
  pub before : List TranscriptLine
  pub last : TranscriptLine
  pub after : List TranscriptLine
  pub split : front ++ line ∷ [] ≡ before ++ last ∷ after
  pub accepted : tells_accepted last.outcome ≡ true
  pub counted : accepted_lines before + 1 ≡ accepted_lines (front ++ line ∷ [])
  pub begins : length (line_texts text before) ≤ length (line_texts text front)

-- whether a line is told to be accepted, by what it adds to the count
one_more : (line : TranscriptLine) (lines : List TranscriptLine)
    → accepted_lines (line ∷ lines) ≡ cond (tells_accepted line.outcome) 1 0 + accepted_lines lines
one_more line lines = sum_by-cons (λ (one : TranscriptLine). cond (tells_accepted one.outcome) 1 0) line lines

counts_one : (b : Bool) (n : ℕ) → 0 < cond b 1 0 + n → n ≡ 0 → b ≡ true
counts_one true n some none = refl
counts_one false n some none = absurd (omega (arith, some, none))

last_accepted : (text : TranscriptLine → List ℕ) (front : List TranscriptLine) (line : TranscriptLine)
    → 0 < accepted_lines (front ++ line ∷ []) → LastAccepted text front line
last_accepted text [] line some =
    let sum = one_more line [] in
    record {
      before = [];
      last = line;
      after = [];
      split = refl;
      accepted = counts_one (tells_accepted line.outcome) 0 (omega (arith, some, sum)) refl;
      counted = single (tells_accepted line.outcome) (omega (arith, some, sum)) sum;
      begins = omega arith;
    }
  where
    single : (b : Bool) → 0 < cond b 1 0 + 0 → accepted_lines (line ∷ []) ≡ cond b 1 0 + 0 → 0 + 1 ≡ accepted_lines (line ∷ [])
    single true some sum = sym sum
    single false some sum = absurd (omega (arith, some))
last_accepted text (first ∷ front) line some = by (accepted_lines (front ++ line ∷ [])) refl (λ more. last_accepted text front line more)
  where
    rest : List TranscriptLine
    rest = front ++ line ∷ []

    behind : LastAccepted text front line → LastAccepted text (first ∷ front) line
    behind found =
        let ours = one_more first found.before in
        let theirs = one_more first rest in
        let own = length-append (text first) (line_texts text found.before) in
        let other = length-append (text first) (line_texts text front) in
        record {
          before = first ∷ found.before;
          last = found.last;
          after = found.after;
          split = ap (λ (ls : List TranscriptLine). first ∷ ls) found.split;
          accepted = found.accepted;
          counted = omega (arith, ours, theirs, found.counted);
          begins = omega (arith, own, other, found.begins);
        }

    here : accepted_lines rest ≡ 0 → LastAccepted text (first ∷ front) line
    here none =
        let sum = one_more first rest in
        record {
          before = [];
          last = first;
          after = rest;
          split = refl;
          accepted = counts_one (tells_accepted first.outcome) (accepted_lines rest) (omega (arith, some, sum)) none;
          counted = single (tells_accepted first.outcome) (omega (arith, some, sum)) sum none;
          begins = omega arith;
        }
      where
        single : (b : Bool) → 0 < cond b 1 0 + accepted_lines rest → accepted_lines (first ∷ rest) ≡ cond b 1 0 + accepted_lines rest
            → accepted_lines rest ≡ 0 → 0 + 1 ≡ accepted_lines (first ∷ rest)
        single true some sum none = omega (arith, sum, none)
        single false some sum none = absurd (omega (arith, some, none))

    by : (n : ℕ) → accepted_lines rest ≡ n → (0 < accepted_lines rest → LastAccepted text front line) → LastAccepted text (first ∷ front) line
    by zero none later = here none
    by (suc n) more later = behind (later (omega (arith, more)))

-- where some of a front are there, there are as many as asked for at least one
some_taken : {A : Type 0} (n : ℕ) (xs : List A) → (take n xs ≡ [] → ⊥) → 0 < n
some_taken zero xs some = absurd (some refl)
some_taken (suc n) xs some = omega arith

-- A disk on which time goes one way, the moments since which the accepted commands of a history are safe, and the lines of which
-- each that is accepted has one of them. So each line is safe by the moment of the last accepted one up to it.
module _ {D : Type 0} (g : Ghosts D) (new : D) (opening : Opening) (history : List Entry) (basis : List Dated)
    (text : TranscriptLine → List ℕ) (answered : List AnsweredLine) (lines : List TranscriptLine) (moments : List ℕ)
    (sooner : (early late : ℕ) (image : List ℕ) → early ≤ late → g.left_since new late image → g.left_since new early image)
    (are_told : AllZip (IsTold opening history basis) answered lines)
    (in_order : (before after : List TranscriptLine) (line : TranscriptLine) → lines ≡ before ++ line ∷ after
    → accepted_of (take (line.turn + 1) history) ≡ take (accepted_lines (before ++ line ∷ [])) (accepted_of history))
    (safe : AreSafeSince g new opening.commands (accepted_of history) moments) where
  pub safe_when_shown : (run : List TakenPiece) → AreShown text run lines moments
      → AreSafeWhenShown g Opens new opening.commands history answered (map text lines) run
  safe_when_shown run shown later earlier piece split before after line where_is some reached image left =
      let pair = zip_split (IsTold opening history basis) answered lines before after line are_told where_is in
      let front = pair.0 in
      let back = pair.1 in
      let told_line = pair.2.0 in
      let there = pair.2.1 in
      let is_told = pair.2.3 in
      let upto : accepted_of (take (line.first.0 + 1) history) ≡ take (accepted_lines (front ++ told_line ∷ [])) (accepted_of history) =
      ap (λ (n : ℕ). accepted_of (take (n + 1) history)) (sym is_told.turn) ∙ in_order front back told_line there in
      let found = last_accepted text front told_line
      (some_taken (accepted_lines (front ++ told_line ∷ [])) (accepted_of history) (λ none. some (upto ∙ none))) in
      let last_there : lines ≡ found.before ++ found.last ∷ (found.after ++ back) =
      there ∙ sym (append_assoc front (told_line ∷ []) back) ∙ ap (λ (ls : List TranscriptLine). ls ++ back) found.split
      ∙ append_assoc found.before (found.last ∷ found.after) back in
      let front_is : concat (take (length before) (map text lines)) ≡ line_texts text front =
      ap (λ (ls : List TranscriptLine). concat (take (length before) (map text ls))) there
      ∙ ap (λ (n : ℕ). concat (take n (map text (front ++ told_line ∷ back)))) (sym pair.2.2)
      ∙ front_text text front (told_line ∷ back) in
      let past : length (line_texts text front) < length (taken_bytes (piece ∷ earlier)) =
      subst (λ (bytes : List ℕ). length bytes < length (taken_bytes (piece ∷ earlier))) front_is reached in
      let moment = shown later earlier piece split found.before (found.after ++ back) found.last last_there found.accepted
      (omega (arith, past, found.begins)) in
      let since = sooner moment.0 piece.since image moment.2 left in
      let holds = since_at g new opening.commands (accepted_of history) moments (accepted_lines found.before) moment.0 safe moment.1 image since in
      let commands : take (accepted_lines found.before + 1) (accepted_of history) ≡ accepted_of (take (line.first.0 + 1) history) =
      ap (λ (n : ℕ). take n (accepted_of history)) found.counted ∙ sym upto in
      subst (λ (cs : List Command). HoldsAtLeast (opening.commands ++ cs) image) commands holds

-- all moments that were told were heard, where one is heard for each accepted line and told for each accepted command
pub all_heard : {D A P : Type 0} (g : Ghosts D) (disk : D) (held commands : List Command) (outlet : Option (Producer ℕ A P))
    (heard rest : List ℕ) → heard ++ rest ≡ told outlet → length heard ≡ length commands
    → IfSome outlet (λ (ring : Producer ℕ A P). AreSafeSince g disk held commands (sent ring))
    → (inlet : Consumer ℕ A P) → ArePaired outlet inlet → AreSafeSince g disk held commands heard
all_heard g disk held commands (Some ring) heard rest split many safe inlet paired =
    let long = many_moments g disk held commands (sent ring) safe in
    let same = front_is_all heard rest (sent ring) split (many ∙ long) in
    subst (AreSafeSince g disk held commands) (sym same) safe
all_heard g disk held commands None heard rest split many safe inlet paired = absurd paired
