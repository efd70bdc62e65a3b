-- The turns of a valuation after those of lanes: nobody else turned meanwhile
use Rattle.trial_load.proofs.Names.{◌≡◌, ◌≢◌, ℕ, ◌+◌, ◌==◌, false, List, [], ◌∷◌, ◌++◌, length, map, take, Some, Result, refl, ap, sym, ◌∙◌, subst, inl, inr, arith, length-append, nat_eq, slice_get, AllByRecursion, Contains, IsDistinct, enumerate_from, filter, cond-false, eq-eqb, ne_eqb, filter-append, Dated, Call, Pin, Entry, Line, Post, Value, Trim, IsDue, commands_after, AnswersLine, Placed, turns_of, Terminal, HasValued, AnswersPin, dry_pins, Valuation, IsValidPosting, Has, all_has, has_filter, has_of_contains, of_all, of_map, same_opened, ArePostless, all_own, entries_in, postless_entries, same_first, same_rest, due_at, posts, quiet_follow, quiet_pin, quiet_turns, load_day}
use Rattle.std.proofs.Math.Seq.{take-append_seam}
use Rattle.policy_types.specs.declared.entry.At.TheVariants.{Now}
use Rattle.turn_lock.specs.History.{entries_of}
use Rattle.turn_lock.specs.Passes.{Holding, OwnsAll, Page, PassFacts, callers as numbers_of}
use Rattle.shared_office.specs.Offices.{IsOfficeHistory, OfficeOpening}
use Rattle.snapshot_value.specs.declared.valuation.ValueFault.{ValueFault}

-- the prefix of what holds of all
pub all_front : {A : Type 0} (P : A → Type 0) (xs ys : List A) → AllByRecursion P (xs ++ ys) → AllByRecursion P xs
all_front P [] ys all = tt
all_front P (x ∷ xs) ys all = (all.0, all_front P xs ys all.1)

pub all_back : {A : Type 0} (P : A → Type 0) (xs ys : List A) → AllByRecursion P (xs ++ ys) → AllByRecursion P ys
all_back P [] ys all = all
all_back P (x ∷ xs) ys all = all_back P xs ys all.1

-- what is added to a list that stays as it is
none_added : {A : Type 0} (xs ys : List A) → xs ++ ys ≡ xs → ys ≡ []
none_added xs [] same = refl
none_added {A = A} xs (y ∷ ys) same =
    let longer = ap (λ (l : List A). length l) same in
    let both = length-append xs (y ∷ ys) in
    absurd (omega (arith, longer, both))

placed_on : (n : ℕ) (xs ys : List Entry) → enumerate_from n (xs ++ ys) ≡ enumerate_from n xs ++ enumerate_from (n + length xs) ys
placed_on n [] ys = let same : n ≡ n + 0 = omega arith in ap (λ k. enumerate_from k ys) same
placed_on n (x ∷ xs) ys =
    let same : (n + 1) + length xs ≡ n + length (x ∷ xs) = omega arith in
    ap (λ more. (n, x) ∷ more) (placed_on (n + 1) xs ys ∙ ap (λ k. enumerate_from (n + 1) xs ++ enumerate_from k ys) same)

pub at_seam : {A : Type 0} (xs : List A) (y : A) (ys : List A) → slice_get (xs ++ y ∷ ys) (length xs) ≡ Some y
at_seam [] y ys = refl
at_seam (x ∷ xs) y ys = at_seam xs y ys

-- a caller without entries has no turns
no_turns : (caller n : ℕ) (history : List Entry) → AllByRecursion (λ (entry : Entry). entry.caller ≢ caller) history
    → filter (λ (turn : Placed). turn.1.caller == caller) (enumerate_from n history) ≡ []
no_turns caller n [] others = refl
no_turns caller n (entry ∷ history) others =
    cond-false (entry.caller == caller) _ _ (ne_eqb entry.caller caller others.0) ∙ no_turns caller (n + 1) history others.1

others_if_none : (caller : ℕ) (history : List Entry) → entries_of history caller ≡ [] → AllByRecursion (λ (entry : Entry). entry.caller ≢ caller) history
others_if_none caller history none = all_has (λ (entry : Entry). entry.caller ≢ caller) history one
  where
    one : (entry : Entry) → Has history entry → entry.caller ≢ caller
    one entry has same =
        subst (λ (es : List Entry). Has es entry) none
        (has_filter (λ (e : Entry). e.caller == caller) history entry (eq-eqb entry.caller caller same) has)

-- turns that are those of a list from a place on
from_place : (n : ℕ) (entries : List Entry) (first : Placed) (later : List Placed) → enumerate_from n entries ≡ first ∷ later
    → (first.0 ≡ n) × (entries ≡ first.1 ∷ map (λ (turn : Placed). turn.1) later)
from_place n [] first later same = absurd (cc)
from_place n (entry ∷ entries) first later same =
    let head = same_first {A = Placed} (n, entry) first (enumerate_from (n + 1) entries) later same in
    let rest = same_rest {A = Placed} (n, entry) first (enumerate_from (n + 1) entries) later same in (
      ap (λ (p : Placed). p.0) (sym head),
      ap (λ (p : Placed). p.1 ∷ entries) head ∙ ap (λ more. first.1 ∷ more) (sym (entries_in (n + 1) entries) ∙ ap (map (λ (turn : Placed). turn.1)) rest),
    )

-- lines of postings are answered whichever pins are out of memory
pub same_line : (dry other : List ℕ) (line : Line) (turns : List Placed) → IsValidPosting line → AnswersLine dry line turns → AnswersLine other line turns
same_line dry other (Post command) [] posting answers = absurd answers
same_line dry other (Post command) (turn ∷ []) posting answers = answers
same_line dry other (Post command) (turn ∷ second ∷ rest) posting answers = absurd answers
same_line dry other (Value on at workers) turns posting answers = absurd posting
same_line dry other Trim turns posting answers = absurd posting

-- what is known of a valuation after the turns of lanes
pub record IsBehind {D W : Type 0} (basis : List Dated) (workers turn : ℕ) (mid closing : Holding (OfficeOpening D W))
    (answer : Result Valuation ValueFault) (callers : List ℕ) (opened : OfficeOpening D W) : Type 0 where
  pub rest : List Entry
  pub seen : closing.seen ≡ mid.seen ++ rest
  pub opening : closing.opening ≡ Some opened
  pub history : IsOfficeHistory opened closing.seen
  pub theirs : AllByRecursion (λ (entry : Entry). Contains (0 ∷ callers) entry.caller) closing.seen
  pub distinct : IsDistinct nat_eq (0 ∷ callers)
  pub whole : OwnsAll mid
  pub others : AllByRecursion (λ (entry : Entry). entry.caller ≢ 0) mid.seen
  pub own : AllByRecursion (λ (entry : Entry). entry.caller ≡ 0) rest
  pub values : AnswersLine (dry_pins turn answer) (Value load_day Now workers) (enumerate_from (length mid.seen) rest)
  pub postless : ArePostless rest
  pub pin : Entry
  pub pin_there : slice_get closing.seen turn ≡ Some pin
  pub due : IsDue opened.opening mid.seen pin.caller Pin pin.reply
  pub answered : AnswersPin (commands_after opened.opening mid.seen) basis load_day Terminal pin.reply answer

-- A valuation's turns, after those of lanes.
module _ {D W : Type 0} (basis : List Dated) (workers turn : ℕ) (mid closing : Holding (OfficeOpening D W)) (answer : Result Valuation ValueFault)
    (callers : List ℕ) (opened : OfficeOpening D W) (valued : HasValued basis load_day Terminal Now workers mid closing turn answer)
    (is_opened : mid.opening ≡ Some opened) (own : mid.caller ≡ 0) (numbers : numbers_of mid ≡ 0 ∷ callers) (before : PassFacts IsOfficeHistory mid)
    (facts : PassFacts IsOfficeHistory closing) (whole : OwnsAll closing) (unturned : entries_of mid.seen 0 ≡ []) where
  abbrev rest : List Entry
  rest = valued.grows.begins.0

  seen : closing.seen ≡ mid.seen ++ rest
  seen = valued.grows.begins.1

  closing_opened : closing.opening ≡ Some opened
  closing_opened = valued.grows.opening ∙ is_opened

  is_history : IsOfficeHistory opened closing.seen
  is_history =
      let lawful = facts.lawful in
      let same : lawful.0 ≡ opened = same_opened lawful.0 opened (sym lawful.1 ∙ closing_opened) in
      subst (λ (o : OfficeOpening D W). IsOfficeHistory o closing.seen) same lawful.2

  same_numbers : numbers_of closing ≡ numbers_of mid
  same_numbers = λ i. valued.grows.caller i ∷ map (λ (page : Page). page.0) (valued.grows.ended i)

  all_callers : AllByRecursion (λ (entry : Entry). Contains (0 ∷ callers) entry.caller) closing.seen
  all_callers = subst (λ (ns : List ℕ). AllByRecursion (λ (entry : Entry). Contains ns entry.caller) closing.seen) (same_numbers ∙ numbers) whole

  whole_before : OwnsAll mid
  whole_before =
      all_front (λ (entry : Entry). Contains (numbers_of mid) entry.caller) mid.seen rest
      (subst (λ (h : List Entry). AllByRecursion (λ (entry : Entry). Contains (numbers_of mid) entry.caller) h) seen
      (subst (λ (ns : List ℕ). AllByRecursion (λ (entry : Entry). Contains ns entry.caller) closing.seen) same_numbers whole))

  -- no caller of a lane turned since
  none_since : (caller : ℕ) → Has callers caller → entries_of rest caller ≡ []
  none_since caller has =
      let ended : map (λ (page : Page). page.0) mid.ended ≡ callers = same_rest mid.caller 0 (map (λ (page : Page). page.0) mid.ended) callers numbers in
      let page = of_map (λ (page : Page). page.0) mid.ended caller (subst (λ (ns : List ℕ). Has ns caller) (sym ended) has) in
      let then : entries_of mid.seen page.0.0 ≡ page.0.1 = of_all (λ (p : Page). entries_of mid.seen p.0 ≡ p.1) mid.ended page.0 before.paged.1 page.1 in
      let later : entries_of closing.seen page.0.0 ≡ page.0.1 =
      of_all (λ (p : Page). entries_of closing.seen p.0 ≡ p.1) closing.ended page.0 facts.paged.1 (subst (λ (ps : List Page). Has ps page.0) (sym valued.grows.ended) page.1) in
      let both : entries_of mid.seen page.0.0 ++ entries_of rest page.0.0 ≡ entries_of mid.seen page.0.0 =
      sym (filter-append (λ (entry : Entry). entry.caller == page.0.0) mid.seen rest) ∙ ap (λ (h : List Entry). entries_of h page.0.0) (sym seen) ∙ later ∙ sym then in
      subst (λ c. entries_of rest c ≡ []) page.2 (none_added (entries_of mid.seen page.0.0) (entries_of rest page.0.0) both)

  rest_own : (entry : Entry) → Has rest entry → entry.caller ≡ 0
  rest_own entry has = by (has_of_contains (0 ∷ callers) entry.caller
      (of_all (λ (e : Entry). Contains (0 ∷ callers) e.caller) rest entry
      (all_back (λ (e : Entry). Contains (0 ∷ callers) e.caller) mid.seen rest (subst (AllByRecursion (λ (e : Entry). Contains (0 ∷ callers) e.caller)) seen all_callers)) has))
    where
      by : Has (0 ∷ callers) entry.caller → entry.caller ≡ 0
      by (inl same) = sym same
      by (inr later) = absurd (subst (λ (es : List Entry). Has es entry) (none_since entry.caller later)
          (has_filter (λ (e : Entry). e.caller == entry.caller) rest entry (eq-eqb entry.caller entry.caller refl) has))

  behind : AllByRecursion (λ (entry : Entry). entry.caller ≡ 0) rest
  behind = all_has (λ (entry : Entry). entry.caller ≡ 0) rest rest_own

  before_it : AllByRecursion (λ (entry : Entry). entry.caller ≢ 0) mid.seen
  before_it = others_if_none 0 mid.seen unturned

  turns_parted : (caller : ℕ) → turns_of closing.seen caller
      ≡ turns_of mid.seen caller ++ filter (λ (placed : Placed). placed.1.caller == caller) (enumerate_from (length mid.seen) rest)
  turns_parted caller =
      ap (λ (h : List Entry). turns_of h caller) seen
      ∙ ap (filter (λ (placed : Placed). placed.1.caller == caller)) (placed_on 0 mid.seen rest)
      ∙ filter-append (λ (placed : Placed). placed.1.caller == caller) (enumerate_from 0 mid.seen) (enumerate_from (0 + length mid.seen) rest)
      ∙ ap (λ k. turns_of mid.seen caller ++ filter (λ (placed : Placed). placed.1.caller == caller) (enumerate_from k rest)) (none (length mid.seen))
    where
      none : (n : ℕ) → 0 + n ≡ n
      none n = omega arith

  -- the valuer's turns are just the rest
  own_turns : turns_of closing.seen 0 ≡ valued.pin ∷ valued.later
  own_turns =
      subst (λ n. turns_of closing.seen n ≡ valued.pin ∷ valued.later) own
      (valued.grows.turns ∙ ap (λ (ts : List Placed). ts ++ valued.pin ∷ valued.later)
      (subst (λ n. turns_of mid.seen n ≡ []) (sym own) (no_turns 0 0 mid.seen before_it)))

  mine : enumerate_from (length mid.seen) rest ≡ valued.pin ∷ valued.later
  mine =
      let here : turns_of closing.seen 0 ≡ enumerate_from (length mid.seen) rest =
      turns_parted 0 ∙ ap (λ (ts : List Placed). ts ++ filter (λ (placed : Placed). placed.1.caller == 0) (enumerate_from (length mid.seen) rest)) (no_turns 0 0 mid.seen before_it)
      ∙ all_own 0 (length mid.seen) rest behind in
      sym here ∙ own_turns

  lone : (valued.pin.0 ≡ length mid.seen) × (rest ≡ valued.pin.1 ∷ map (λ (placed : Placed). placed.1) valued.later)
  lone = from_place (length mid.seen) rest valued.pin valued.later mine

  turn_is : turn ≡ length mid.seen
  turn_is = sym valued.place ∙ lone.0

  postless : ArePostless rest
  postless =
      let pins : posts valued.pin.1.call ≡ false = ap posts valued.answers.0 ∙ quiet_pin Now in
      let more = postless_entries valued.later (quiet_turns valued.later
      (quiet_follow _ valued.pin.0 valued.pin.1.reply (map (λ (t : Placed). t.1.call) valued.later) valued.answers.1)) in
      subst (λ (h : List Entry). ArePostless h) (sym lone.1) (pins, more)

  taken : take turn closing.seen ≡ mid.seen
  taken = ap (λ n. take n closing.seen) turn_is ∙ ap (take (length mid.seen)) seen ∙ take-append_seam mid.seen rest

  -- the pin stands after the lanes' turns
  pin_there : slice_get closing.seen turn ≡ Some valued.pin.1
  pin_there =
      ap (slice_get closing.seen) turn_is
      ∙ ap (λ (h : List Entry). slice_get h (length mid.seen)) (seen ∙ ap (λ (h : List Entry). mid.seen ++ h) lone.1)
      ∙ at_seam mid.seen valued.pin.1 (map (λ (placed : Placed). placed.1) valued.later)

  due : IsDue opened.opening mid.seen valued.pin.1.caller Pin valued.pin.1.reply
  due =
      let there = due_at opened.opening [] closing.seen turn valued.pin.1 is_history.legal.due pin_there in
      let here = subst (λ (h : List Entry). IsDue opened.opening h valued.pin.1.caller valued.pin.1.call valued.pin.1.reply) taken there in
      subst (λ (c : Call). IsDue opened.opening mid.seen valued.pin.1.caller c valued.pin.1.reply) valued.answers.0 here

  answered : AnswersPin (commands_after opened.opening mid.seen) basis load_day Terminal valued.pin.1.reply answer
  answered =
      let same : valued.opened ≡ opened = same_opened valued.opened opened (sym valued.opening ∙ closing_opened) in
      subst (λ (h : List Entry). AnswersPin (commands_after opened.opening h) basis load_day Terminal valued.pin.1.reply answer) taken
      (subst (λ (o : OfficeOpening D W). AnswersPin (commands_after o.opening (take turn closing.seen)) basis load_day Terminal valued.pin.1.reply answer) same valued.answered)

  pub is_behind : IsBehind basis workers turn mid closing answer callers opened
  is_behind = record {
    rest = rest;
    seen = seen;
    opening = closing_opened;
    history = is_history;
    theirs = all_callers;
    distinct = subst (IsDistinct nat_eq) (same_numbers ∙ numbers) facts.apart;
    whole = whole_before;
    others = before_it;
    own = behind;
    values = subst (AnswersLine (dry_pins turn answer) (Value load_day Now workers)) (sym mine) valued.answers;
    postless = postless;
    pin = valued.pin.1;
    pin_there = pin_there;
    due = due;
    answered = answered;
  }
