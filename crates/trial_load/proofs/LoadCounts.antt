-- How many postings of a history were accepted and refused is what is reported of the lines that they answer
use Rattle.trial_load.proofs.Names.{◌≡◌, ℕ, ◌+◌, ◌<◌, ◌==◌, Bool, false, cond, List, [], ◌∷◌, ◌++◌, length, map, take, refl, ap, sym, ◌∙◌, subst, inl, inr, arith, nat_eq, AllByRecursion, AllZip, Contains, IsDistinct, count_by, enumerate_from, filter, flat_map, sum_by, cond-false, cond-true, eq-eqb, eqb-false, ne_eqb, sum_by-cons, Dated, Command, Call, PostCall, Entry, Reply, Line, Post, Value, Trim, Lane, Opening, accepted_of, commands_after, AnswersLine, Placed, AnsweredLine, AreLinesOf, AreOfLanes, lines_by, turns_in, AreRising, IsOutcome, IsTold, TranscriptLine, IsValidPosting, Has, has_of_contains, of_all, of_filter, is_refusal, refused_in}
use Rattle.office_state.specs.declared.answer.Answer.TheVariants.{Accepted as AnAccepted, Refused as ARefused, DiskFault, NoMemory}
use Rattle.lane_runner.specs.declared.transcript.Outcome.{Outcome}
use Rattle.lane_runner.specs.declared.transcript.Outcome.TheVariants.{Posted, Trimmed, Valued, ValueRefused, ValueNoMemory}
use Rattle.transcript_text.proofs.AcceptedSteps.{accepted_counted, accepted_told, is_acceptance}
use Rattle.lane_runner.specs.Tallies.{accepted_lines, refused_lines, tells_accepted, tells_refused}

-- Sums over a list, key by key.
module _ {A : Type 0} (key : A → ℕ) (size : A → ℕ) where
  abbrev pub by_keys : List ℕ → List A → ℕ
  by_keys [] xs = 0
  by_keys (n ∷ ns) xs = sum_by size (filter (λ x. key x == n) xs) + by_keys ns xs

  none : (ns : List ℕ) → by_keys ns [] ≡ 0
  none [] = refl
  none (n ∷ ns) = let rest = none ns in omega (arith, rest)

  kept : (n : ℕ) (x : A) (xs : List A) → key x ≡ n → sum_by size (filter (λ x. key x == n) (x ∷ xs)) ≡ size x + sum_by size (filter (λ x. key x == n) xs)
  kept n x xs is =
      ap (sum_by size) (cond-true (key x == n) _ _ (eq-eqb (key x) n is)) ∙ sum_by-cons size x (filter (λ x. key x == n) xs)

  gone : (n : ℕ) (x : A) (xs : List A) → nat_eq n (key x) ≡ false → sum_by size (filter (λ x. key x == n) (x ∷ xs)) ≡ sum_by size (filter (λ x. key x == n) xs)
  gone n x xs apart =
      ap (sum_by size) (cond-false (key x == n) _ _ (ne_eqb (key x) n (λ e. eqb-false n (key x) apart (sym e))))

  other : (ns : List ℕ) (x : A) (xs : List A) → AllByRecursion (λ n. nat_eq (key x) n ≡ false) ns → by_keys ns (x ∷ xs) ≡ by_keys ns xs
  other [] x xs apart = refl
  other (n ∷ ns) x xs apart =
      let here : nat_eq n (key x) ≡ false = ne_eqb n (key x) (λ e. eqb-false (key x) n apart.0 (sym e)) in
      let first = gone n x xs here in
      let rest = other ns x xs apart.1 in
      omega (arith, first, rest)

  one : (ns : List ℕ) (x : A) (xs : List A) → IsDistinct nat_eq ns → Has ns (key x) → by_keys ns (x ∷ xs) ≡ size x + by_keys ns xs
  unfolding IsDistinct
  one [] x xs distinct has = absurd has
  one (n ∷ ns) x xs distinct (inl same) =
      let first = kept n x xs (sym same) in
      let rest = other ns x xs (subst (λ (m : ℕ). AllByRecursion (λ k. nat_eq m k ≡ false) ns) same distinct.0) in
      omega (arith, first, rest)
  one (n ∷ ns) x xs distinct (inr later) =
      let first = gone n x xs (of_all (λ k. nat_eq n k ≡ false) ns (key x) distinct.0 later) in
      let rest = one ns x xs distinct.1 later in
      omega (arith, first, rest)

  pub summed : (ns : List ℕ) (xs : List A) → IsDistinct nat_eq ns → ((x : A) → Has xs x → Has ns (key x)) → by_keys ns xs ≡ sum_by size xs
  summed ns [] distinct each = none ns
  summed ns (x ∷ xs) distinct each =
      let first = one ns x xs distinct (each x (inl refl)) in
      let rest = summed ns xs distinct (λ y has. each y (inr has)) in
      let whole = sum_by-cons size x xs in
      omega (arith, first, rest, whole)

-- rising numbers differ
above : (n : ℕ) (ns : List ℕ) → AreRising (n ∷ ns) → AllByRecursion (λ m. n < m) ns
above n [] rising = tt
above n (m ∷ ns) rising = (rising.0, more ns (above m ns rising.1))
  where
    more : (ks : List ℕ) → AllByRecursion (λ k. m < k) ks → AllByRecursion (λ k. n < k) ks
    more [] all = tt
    more (k ∷ ks) all = (omega (arith, rising.0, all.0), more ks all.1)

rest_rises : (n : ℕ) (ns : List ℕ) → AreRising (n ∷ ns) → AreRising ns
rest_rises n [] rising = tt
rest_rises n (m ∷ ns) rising = rising.1

pub distinct_if_rising : (ns : List ℕ) → AreRising ns → IsDistinct nat_eq ns
unfolding IsDistinct
distinct_if_rising [] rising = tt
distinct_if_rising (n ∷ ns) rising = (differ ns (above n ns rising), distinct_if_rising ns (rest_rises n ns rising))
  where
    differ : (ks : List ℕ) → AllByRecursion (λ k. n < k) ks → AllByRecursion (λ k. nat_eq n k ≡ false) ks
    differ [] all = tt
    differ (k ∷ ks) all = (ne_eqb n k (λ e. omega (arith, e, all.0)), differ ks all.1)

-- a test of entries, as a number
abbrev worth : (Entry → Bool) → Entry → ℕ
worth test entry = cond (test entry) 1 0

module _ (test : Entry → Bool) where
  in_places : (n : ℕ) (history : List Entry) → sum_by (λ (turn : Placed). worth test turn.1) (enumerate_from n history) ≡ count_by test history
  in_places n [] = refl
  in_places n (entry ∷ history) =
      let first = sum_by-cons (λ (turn : Placed). worth test turn.1) (n, entry) (enumerate_from (n + 1) history) in
      let rest = in_places (n + 1) history in
      let whole = sum_by-cons (worth test) entry history in
      omega (arith, first, rest, whole)

  -- lines that one turn answers
  of_singles : (lines : List AnsweredLine) → ((one : AnsweredLine) → Has lines one → one.rest ≡ [])
      → sum_by (λ (turn : Placed). worth test turn.1) (flat_map turns_in lines) ≡ sum_by (λ (one : AnsweredLine). worth test one.first.1) lines
  of_singles [] single = refl
  of_singles (line ∷ lines) single =
      let size : Placed → ℕ = λ (turn : Placed). worth test turn.1 in
      let more = flat_map turns_in lines in
      let alone = ap (λ (rest : List Placed). sum_by size (line.first ∷ (rest ++ more))) (single line (inl refl)) in
      let first = sum_by-cons size line.first more in
      let rest = of_singles lines (λ one has. single one (inr has)) in
      let whole = sum_by-cons (λ (one : AnsweredLine). worth test one.first.1) line lines in
      omega (arith, alone, first, rest, whole)

  -- lane by lane the answered lines have the turns of their caller
  of_lanes : (answered : List AnsweredLine) (history : List Entry) (lanes : List Lane) (callers : List ℕ) → AreOfLanes answered history lanes callers
      → ((one : AnsweredLine) → Has answered one → one.rest ≡ [])
      → by_keys (λ (one : AnsweredLine). one.clerk) (λ (one : AnsweredLine). worth test one.first.1) (map (λ (lane : Lane). lane.number) lanes) answered
      ≡ by_keys (λ (turn : Placed). turn.1.caller) (λ (turn : Placed). worth test turn.1) callers (enumerate_from 0 history)
  of_lanes answered history [] [] are single = refl
  of_lanes answered history [] (caller ∷ callers) are single = absurd are
  of_lanes answered history (lane ∷ lanes) [] are single = absurd are
  of_lanes answered history (lane ∷ lanes) (caller ∷ callers) are single =
      let size : Placed → ℕ = λ (turn : Placed). worth test turn.1 in
      let own = of_singles (lines_by lane.number answered) (λ one has. single one (of_filter (λ (one : AnsweredLine). one.clerk == lane.number) answered one has).0) in
      let here = ap (sum_by size) are.0.1 in
      let rest = of_lanes answered history lanes callers are.1 single in
      omega (arith, own, here, rest)

  pub counted : (answered : List AnsweredLine) (history : List Entry) (lanes : List Lane) (callers : List ℕ) → AreOfLanes answered history lanes callers
      → AreRising (map (λ (lane : Lane). lane.number) lanes) → IsDistinct nat_eq callers
      → ((one : AnsweredLine) → Has answered one → Has (map (λ (lane : Lane). lane.number) lanes) one.clerk)
      → ((entry : Entry) → Has history entry → Has callers entry.caller)
      → ((one : AnsweredLine) → Has answered one → one.rest ≡ [])
      → count_by test history ≡ sum_by (λ (one : AnsweredLine). worth test one.first.1) answered
  counted answered history lanes callers are rising distinct clerks theirs single =
      let lines = summed (λ (one : AnsweredLine). one.clerk) (λ (one : AnsweredLine). worth test one.first.1) (map (λ (lane : Lane). lane.number) lanes) answered
      (distinct_if_rising (map (λ (lane : Lane). lane.number) lanes) rising) clerks in
      let turns = summed (λ (turn : Placed). turn.1.caller) (λ (turn : Placed). worth test turn.1) callers (enumerate_from 0 history) distinct
      (λ turn has. theirs turn.1 (entry_of 0 history turn has)) in
      let both = of_lanes answered history lanes callers are single in
      let places = in_places 0 history in
      omega (arith, lines, turns, both, places)
    where
      entry_of : (n : ℕ) (entries : List Entry) (turn : Placed) → Has (enumerate_from n entries) turn → Has entries turn.1
      entry_of n [] turn has = absurd has
      entry_of n (entry ∷ entries) turn (inl same) = inl (ap (λ (t : Placed). t.1) same)
      entry_of n (entry ∷ entries) turn (inr later) = inr (entry_of (n + 1) entries turn later)

-- sums over pairs that agree
alike : {A B : Type 0} (R : A → B → Type 0) (f : A → ℕ) (g : B → ℕ) (xs : List A) (ys : List B)
    → ((x : A) (y : B) → Has xs x → R x y → f x ≡ g y) → AllZip R xs ys → sum_by f xs ≡ sum_by g ys
alike R f g [] [] each all = refl
alike R f g [] (y ∷ ys) each all = absurd all
alike R f g (x ∷ xs) [] each all = absurd all
alike R f g (x ∷ xs) (y ∷ ys) each all =
    let first = each x y (inl refl) all.0 in
    let rest = alike R f g xs ys (λ a b has. each a b (inr has)) all.1 in
    let left = sum_by-cons f x xs in
    let right = sum_by-cons g y ys in
    omega (arith, first, rest, left, right)

-- what is reported of a posting states its reply
refused_told : (command : Command) (reply : Reply) (outcome : Outcome) (commands : List Command) (basis : List Dated)
    → IsOutcome commands basis (Post command) reply outcome → is_refusal (PostCall command) reply ≡ tells_refused outcome
refused_told command reply (Posted (AnAccepted position)) commands basis told = ap (is_refusal (PostCall command)) told
refused_told command reply (Posted (ARefused refusal)) commands basis told = ap (is_refusal (PostCall command)) told
refused_told command reply (Posted (DiskFault count)) commands basis told = ap (is_refusal (PostCall command)) told
refused_told command reply (Posted (NoMemory lack)) commands basis told = ap (is_refusal (PostCall command)) told
refused_told command reply (Trimmed floor) commands basis told = absurd told
refused_told command reply (Valued valuation) commands basis told = absurd told
refused_told command reply (ValueRefused refusal) commands basis told = absurd told
refused_told command reply (ValueNoMemory lack) commands basis told = absurd told

-- a posting's line has one turn, which posts its command
pub only_turn : (dry : List ℕ) (line : Line) (first : Placed) (rest : List Placed) → IsValidPosting line → AnswersLine dry line (first ∷ rest)
    → (rest ≡ []) × ((command : Command) × (line ≡ Post command) × (first.1.call ≡ PostCall command))
only_turn dry (Post command) first [] posting answers = (refl, (command, refl, answers))
only_turn dry (Post command) first (second ∷ rest) posting answers = absurd answers
only_turn dry (Value on at workers) first rest posting answers = absurd posting
only_turn dry Trim first rest posting answers = absurd posting

module _ (opening : Opening) (history : List Entry) (basis : List Dated) (lanes : List Lane) (callers dry : List ℕ) (answered : List AnsweredLine)
    (told : List TranscriptLine) (are : AreLinesOf answered history lanes callers dry) (pairs : AllZip (IsTold opening history basis) answered told)
    (rising : AreRising (map (λ (lane : Lane). lane.number) lanes)) (distinct : IsDistinct nat_eq callers)
    (theirs : (entry : Entry) → Has history entry → Has callers entry.caller)
    (postings : (one : AnsweredLine) → Has answered one → IsValidPosting one.line) where
  answers : (one : AnsweredLine) → Has answered one → AnswersLine dry one.line (turns_in one)
  answers one has = of_all (λ (one : AnsweredLine). AnswersLine dry one.line (turns_in one)) answered one are.turns has

  clerks : (one : AnsweredLine) → Has answered one → Has (map (λ (lane : Lane). lane.number) lanes) one.clerk
  clerks one has = has_of_contains (map (λ (lane : Lane). lane.number) lanes) one.clerk
      (of_all (λ (one : AnsweredLine). Contains (map (λ (lane : Lane). lane.number) lanes) one.clerk) answered one are.clerks has)

  single : (one : AnsweredLine) → Has answered one → one.rest ≡ []
  single one has = (only_turn dry one.line one.first one.rest (postings one has) (answers one has)).0

  -- a test that agrees with what is reported of each posting
  tested : (test : Call → Reply → Bool) (tells : Outcome → Bool)
      → ((command : Command) (reply : Reply) (outcome : Outcome) (commands : List Command) → IsOutcome commands basis (Post command) reply outcome
      → test (PostCall command) reply ≡ tells outcome)
      → count_by (λ (entry : Entry). test entry.call entry.reply) history ≡ count_by (λ (line : TranscriptLine). tells line.outcome) told
  tested test tells agree =
      counted (λ (entry : Entry). test entry.call entry.reply) answered history lanes callers are.each rising distinct clerks theirs single
      ∙ alike (IsTold opening history basis) (λ (one : AnsweredLine). worth (λ (entry : Entry). test entry.call entry.reply) one.first.1)
      (λ (line : TranscriptLine). cond (tells line.outcome) 1 0) answered told one_pair pairs
    where
      one_pair : (this : AnsweredLine) (line : TranscriptLine) → Has answered this → IsTold opening history basis this line
          → worth (λ (entry : Entry). test entry.call entry.reply) this.first.1 ≡ cond (tells line.outcome) 1 0
      one_pair this line has is =
          let turn = only_turn dry this.line this.first this.rest (postings this has) (answers this has) in
          let commands : List Command = commands_after opening (take this.first.0 history) in
          let outcome = subst (λ (l : Line). IsOutcome commands basis l this.first.1.reply line.outcome) turn.1.1 is.outcome in
          ap {B = ℕ} (λ (b : Bool). cond b 1 0)
          (ap (λ (c : Call). test c this.first.1.reply) turn.1.2 ∙ agree turn.1.0 this.first.1.reply line.outcome commands outcome)

  pub accepted_is : length (accepted_of history) ≡ accepted_lines told
  accepted_is = accepted_counted history ∙ tested is_acceptance tells_accepted (λ command reply outcome commands is. accepted_told command reply outcome commands basis is)

  pub refused_is : refused_in history ≡ refused_lines told
  refused_is = tested is_refusal tells_refused (λ command reply outcome commands is. refused_told command reply outcome commands basis is)
