-- What one more turn does to the live pins of a history, and what is known of one of them
use Rattle.office_state.proofs.Names.{◌≡◌, ℕ, zero, suc, ◌+◌, ◌<◌, ◌≤◌, Bool, true, false, not, cond, ◌||◌, ◌⊎◌, inl, inr, List, [], ◌∷◌, ◌++◌, length, drop, slice_get, map, filter, refl, sym, ap, ◌∙◌, subst, append-nil, None, Some, Option, filter_map, arith, Contains, cons_option, list_any, range_with_len, none-some, same_Some, slice_get_within, filter_map-append, Entry, gives_up, live_pin, live_positions, pin_of, pinned_position, live_parts, slice_get-front, slice_get-middle, Held, held_at, held_in, pins_held}
use Rattle.std.specs.Option.{option_map}
use Rattle.std.proofs.lemmas.List.{drop-append-le, drop_all, length-append}
use Rattle.std.proofs.lemmas.List.Folds.{list_any-append}
use Rattle.policy_types.specs.declared.entry.Call.{Call}

-- whether a turn after the one at a place gave its pin up
abbrev given_up : List Entry → ℕ → Bool
given_up turns place = list_any (λ (e : Entry). gives_up place e.call) (drop (place + 1) turns)

abbrev pin_in : Option Entry → Option (ℕ × ℕ)
pin_in None = None
pin_in (Some entry) = pin_of entry.reply

live_is : (turns : List Entry) (place : ℕ) → live_pin turns place ≡ cond (given_up turns place) None (pin_in (slice_get turns place))
live_is turns place = by (slice_get turns place) refl
  where
    by : (o : Option Entry) → slice_get turns place ≡ o → live_pin turns place ≡ cond (given_up turns place) None (pin_in (slice_get turns place))
    by None none = rw none refl
    by (Some entry) found = rw found refl

none_held : (place : ℕ) (o : Option Entry) → held_in place o None ≡ None
none_held place None = refl
none_held place (Some entry) = refl

-- a pin that was or wasn't given up before, by a turn that does or doesn't
held_or_not : (place : ℕ) (o : Option Entry) (pin : Option (ℕ × ℕ)) (before now : Bool)
    → held_in place o (cond (before || now) None pin) ≡ cond now None (held_in place o (cond before None pin))
held_or_not place o pin true true = none_held place o
held_or_not place o pin true false = refl
held_or_not place o pin false true = none_held place o
held_or_not place o pin false false = refl

or_false : (b : Bool) → (b || false) ≡ b
or_false true = refl
or_false false = refl

module _ (turns : List Entry) (entry : Entry) where
  abbrev more : List Entry
  more = turns ++ entry ∷ []

  -- a pin of an earlier turn
  held_earlier : (place : ℕ) → place < length turns → held_at more place ≡ cond (gives_up place entry.call) None (held_at turns place)
  held_earlier place within =
      let o = slice_get turns place in
      let same : slice_get more place ≡ o = slice_get-front turns (entry ∷ []) place within in
      let later : given_up more place ≡ (given_up turns place || gives_up place entry.call) =
      ap (list_any (λ (e : Entry). gives_up place e.call)) (drop-append-le (place + 1) turns (entry ∷ []) (omega arith))
      ∙ list_any-append (λ (e : Entry). gives_up place e.call) (drop (place + 1) turns) (entry ∷ [])
      ∙ ap (λ b. given_up turns place || b) (or_false (gives_up place entry.call)) in
      let now : live_pin more place ≡ cond (given_up turns place || gives_up place entry.call) None (pin_in o) =
      live_is more place ∙ ap (λ b. cond b None (pin_in (slice_get more place))) later
      ∙ ap (λ found. cond (given_up turns place || gives_up place entry.call) None (pin_in found)) same in
      ap (λ found. held_in place found (live_pin more place)) same
      ∙ ap (held_in place o) now
      ∙ held_or_not place o (pin_in o) (given_up turns place) (gives_up place entry.call)
      ∙ ap (λ pin. cond (gives_up place entry.call) None (held_in place o pin)) (sym (live_is turns place))

  -- the pin of the turn itself
  held_last : held_at more (length turns) ≡ held_in (length turns) (Some entry) (pin_of entry.reply)
  held_last =
      let here : slice_get more (length turns) ≡ Some entry = slice_get-middle turns [] entry in
      let none_after : drop (length turns + 1) more ≡ [] = drop_all (length turns + 1) more (omega (arith, length-append turns (entry ∷ []))) in
      let live : live_pin more (length turns) ≡ pin_of entry.reply =
      live_is more (length turns)
      ∙ ap (λ later. cond (list_any (λ (e : Entry). gives_up (length turns) e.call) later) None (pin_in (slice_get more (length turns)))) none_after
      ∙ ap pin_in here in
      ap (λ found. held_in (length turns) found (live_pin more (length turns))) here ∙ ap (held_in (length turns) (Some entry)) live

range_more : (from len : ℕ) → range_with_len from (suc len) ≡ range_with_len from len ++ (from + len) ∷ []
range_more from zero = let same : from ≡ from + zero = omega arith in ap (λ n. n ∷ []) same
range_more from (suc len) =
    let same : from + 1 + len ≡ from + suc len = omega arith in
    ap (λ rest. from ∷ rest) (range_more (from + 1) len ∙ ap (λ n. range_with_len (from + 1) len ++ n ∷ []) same)

-- two lookups that agree on a range
agree_on : {Y : Type 0} (f g : ℕ → Option Y) (from len : ℕ) → ((k : ℕ) → k < from + len → f k ≡ g k)
    → filter_map f (range_with_len from len) ≡ filter_map g (range_with_len from len)
agree_on f g from zero same = refl
agree_on f g from (suc len) same =
    ap (λ o. cons_option o (filter_map f (range_with_len (from + 1) len))) (same from (omega arith))
    ∙ ap (cons_option (g from)) (agree_on f g (from + 1) len (λ k within. same k (omega arith)))

number_in : (place : ℕ) (o : Option Entry) (pin : Option (ℕ × ℕ)) (held : Held) → held_in place o pin ≡ Some held → held.number ≡ place
number_in place None pin held is = absurd (none-some held is)
number_in place (Some entry) None held is = absurd (none-some held is)
number_in place (Some entry) (Some pin) held is = ap (λ (h : Held). h.number) (sym (same_Some _ held is))

-- the pins that a call leaves
abbrev still_held : Call → List Held → List Held
still_held call pins = filter (λ (held : Held). not (gives_up held.number call)) pins

given_up_of : (turns : List Entry) (call : Call) (places : List ℕ)
    → filter_map (λ place. cond (gives_up place call) None (held_at turns place)) places ≡ still_held call (filter_map (held_at turns) places)
given_up_of turns call [] = refl
given_up_of turns call (place ∷ places) = by (held_at turns place) refl (given_up_of turns call places)
  where
    by_test : (b : Bool) (held : Held) (rest pins : List Held) → rest ≡ pins
        → cons_option (cond b None (Some held)) rest ≡ cond (not b) (held ∷ pins) pins
    by_test true held rest pins same = same
    by_test false held rest pins same = ap (λ these. held ∷ these) same

    by_none : (b : Bool) (rest pins : List Held) → rest ≡ pins → cons_option (cond b None None) rest ≡ pins
    by_none true rest pins same = same
    by_none false rest pins same = same

    by : (o : Option Held) → held_at turns place ≡ o
        → filter_map (λ place. cond (gives_up place call) None (held_at turns place)) places ≡ still_held call (filter_map (held_at turns) places)
        → cons_option (cond (gives_up place call) None (held_at turns place)) (filter_map (λ place. cond (gives_up place call) None (held_at turns place)) places)
        ≡ still_held call (cons_option (held_at turns place) (filter_map (held_at turns) places))
    by None none same =
        let rest = filter_map (λ place. cond (gives_up place call) None (held_at turns place)) places in
        rw none (by_none (gives_up place call) rest (still_held call (filter_map (held_at turns) places)) same)
    by (Some held) found same =
        let rest = filter_map (λ place. cond (gives_up place call) None (held_at turns place)) places in
        let pins = still_held call (filter_map (held_at turns) places) in
        let number : held.number ≡ place = number_in place (slice_get turns place) (live_pin turns place) held found in
        rw found (by_test (gives_up place call) held rest pins same ∙ ap (λ n. cond (not (gives_up n call)) (held ∷ pins) pins) (sym number))

module _ (turns : List Entry) (entry : Entry) where
  -- the pins that were live and aren't given up by the turn, then that of the turn
  pub pins_held-push : pins_held (turns ++ entry ∷ [])
      ≡ still_held entry.call (pins_held turns) ++ cons_option (held_in (length turns) (Some entry) (pin_of entry.reply)) []
  pins_held-push =
      let all = turns ++ entry ∷ [] in
      let n = length turns in
      let earlier = λ (place : ℕ). cond (gives_up place entry.call) None (held_at turns place) in
      let many : length all ≡ suc n = omega (arith, length-append turns (entry ∷ [])) in
      let last : range_with_len 0 (suc n) ≡ range_with_len 0 n ++ n ∷ [] =
      let same : 0 + n ≡ n = omega arith in range_more 0 n ∙ ap (λ k. range_with_len 0 n ++ k ∷ []) same in
      ap (λ len. filter_map (held_at all) (range_with_len 0 len)) many
      ∙ ap (filter_map (held_at all)) last
      ∙ filter_map-append (held_at all) (range_with_len 0 n) (n ∷ [])
      ∙ ap (λ last. filter_map (held_at all) (range_with_len 0 n) ++ cons_option last []) (held_last turns entry)
      ∙ ap (λ front. front ++ cons_option (held_in n (Some entry) (pin_of entry.reply)) [])
      (agree_on (held_at all) earlier 0 n (λ place within. held_earlier turns entry place (omega (arith, within))) ∙ given_up_of turns entry.call (range_with_len 0 n))

  all_still : (quiet : (n : ℕ) → gives_up n entry.call ≡ false) (pins : List Held) → still_held entry.call pins ≡ pins
  all_still quiet [] = refl
  all_still quiet (held ∷ pins) =
      ap (λ b. cond (not b) (held ∷ still_held entry.call pins) (still_held entry.call pins)) (quiet held.number)
      ∙ ap (λ rest. held ∷ rest) (all_still quiet pins)

  -- a turn that takes no pin and gives none up
  pub pins_held-same : ((n : ℕ) → gives_up n entry.call ≡ false) → pin_of entry.reply ≡ None → pins_held (turns ++ entry ∷ []) ≡ pins_held turns
  pins_held-same quiet none =
      pins_held-push
      ∙ ap (λ pin. still_held entry.call (pins_held turns) ++ cons_option (held_in (length turns) (Some entry) pin) []) none
      ∙ append-nil (still_held entry.call (pins_held turns))
      ∙ all_still quiet (pins_held turns)

  -- a turn that takes one
  pub pins_held-more : ((n : ℕ) → gives_up n entry.call ≡ false) → (position policies : ℕ) → pin_of entry.reply ≡ Some (position, policies)
      → pins_held (turns ++ entry ∷ [])
      ≡ pins_held turns ++ (record { number = length turns; caller = entry.caller; position = position; policies = policies }) ∷ []
  pins_held-more quiet position policies taken =
      pins_held-push
      ∙ ap (λ pin. still_held entry.call (pins_held turns) ++ cons_option (held_in (length turns) (Some entry) pin) []) taken
      ∙ ap (λ pins. pins ++ (record { number = length turns; caller = entry.caller; position = position; policies = policies }) ∷ []) (all_still quiet (pins_held turns))

  -- a turn that gives some up
  pub pins_held-fewer : pin_of entry.reply ≡ None → pins_held (turns ++ entry ∷ []) ≡ still_held entry.call (pins_held turns)
  pins_held-fewer none =
      pins_held-push
      ∙ ap (λ pin. still_held entry.call (pins_held turns) ++ cons_option (held_in (length turns) (Some entry) pin) []) none
      ∙ append-nil (still_held entry.call (pins_held turns))

-- what is known of a pin that is held
pub record HeldParts (turns : List Entry) (place : ℕ) (held : Held) : Type 0 where
  pub entry : Entry
  pub found : slice_get turns place ≡ Some entry
  pub caller : entry.caller ≡ held.caller
  pub number : place ≡ held.number
  pub live : live_pin turns place ≡ Some (held.position, held.policies)

held_parts : (turns : List Entry) (place : ℕ) (held : Held) → held_at turns place ≡ Some held → HeldParts turns place held
held_parts turns place held is = by (slice_get turns place) (live_pin turns place) refl refl is
  where
    by : (o : Option Entry) (pin : Option (ℕ × ℕ)) → slice_get turns place ≡ o → live_pin turns place ≡ pin → held_in place o pin ≡ Some held
        → HeldParts turns place held
    by None pin found live none = absurd (none-some held none)
    by (Some entry) None found live none = absurd (none-some held none)
    by (Some entry) (Some pin) found live some =
        let same = same_Some _ held some in record {
          entry = entry;
          found = found;
          caller = ap (λ (h : Held). h.caller) same;
          number = ap (λ (h : Held). h.number) same;
          live = live ∙ ap (λ (h : Held). Some (h.position, h.policies)) same;
        }

among_lookups : {Y : Type 0} (f : ℕ → Option Y) (ks : List ℕ) (y : Y) → Contains (filter_map f ks) y → (k : ℕ) × (f k ≡ Some y)
among_lookups f [] y among = absurd (omega (arith, among.1))
among_lookups {Y} f (k ∷ ks) y among = by (f k) refl (among_lookups f ks y) among
  where
    by : (o : Option Y) → f k ≡ o → (Contains (filter_map f ks) y → (k : ℕ) × (f k ≡ Some y))
        → Contains (cons_option o (filter_map f ks)) y → (k : ℕ) × (f k ≡ Some y)
    by None none rest c = rest c
    by (Some x) some rest (zero, within, at) = (k, some ∙ ap Some at)
    by (Some x) some rest (suc i, within, at) = rest (i, omega (arith, within), at)

-- the pin is live, and was taken by its caller
pub among_held : (turns : List Entry) (held : Held) → Contains (pins_held turns) held → HeldParts turns held.number held
among_held turns held among =
    let found = among_lookups (held_at turns) (range_with_len 0 (length turns)) held among in
    let parts = held_parts turns found.0 held found.1 in
    subst (λ place. HeldParts turns place held) parts.number parts

behind : {Y : Type 0} (o : Option Y) (ys : List Y) (y : Y) → Contains ys y → Contains (cons_option o ys) y
behind None ys y among = among
behind (Some x) ys y among = (suc among.0, omega (arith, among.1), among.2)

first_of : {Y : Type 0} (o : Option Y) (ys : List Y) (y : Y) → o ≡ Some y → Contains (cons_option o ys) y
first_of None ys y is = absurd (none-some y is)
first_of (Some x) ys y is = (0, omega arith, same_Some x y is)

among_range : {Y : Type 0} (f : ℕ → Option Y) (k : ℕ) (y : Y) → f k ≡ Some y → (from len : ℕ) → from ≤ k → k < from + len
    → Contains (filter_map f (range_with_len from len)) y
among_range f k y found from zero low high = absurd (omega (arith, low, high))
among_range {Y} f k y found from (suc len) low high =
    by (grind arith) (λ later. among_range f k y found (from + 1) len later (omega (arith, high)))
  where
    by : (from ≡ k) ⊎ (from + 1 ≤ k) → (from + 1 ≤ k → Contains (filter_map f (range_with_len (from + 1) len)) y)
        → Contains (filter_map f (range_with_len from (suc len))) y
    by (inl here) rest = first_of (f from) (filter_map f (range_with_len (from + 1) len)) y (ap f here ∙ found)
    by (inr later) rest = behind (f from) (filter_map f (range_with_len (from + 1) len)) y (rest later)

-- a live pin is among those that are held
pub live_among : (turns : List Entry) (pin : ℕ) (entry : Entry) (position policies : ℕ) → slice_get turns pin ≡ Some entry
    → live_pin turns pin ≡ Some (position, policies)
    → Contains (pins_held turns) (record { number = pin; caller = entry.caller; position = position; policies = policies })
live_among turns pin entry position policies found live =
    let held : held_at turns pin ≡ Some (record { number = pin; caller = entry.caller; position = position; policies = policies }) =
    ap (λ o. held_in pin o (live_pin turns pin)) found ∙ ap (held_in pin (Some entry)) live in
    among_range (held_at turns) pin _ held 0 (length turns) (omega arith) (omega (arith, slice_get_within turns pin entry found))

map_lookups : {Y Z : Type 0} (v : Y → Z) (f : ℕ → Option Y) (g : ℕ → Option Z) → ((k : ℕ) → option_map v (f k) ≡ g k) → (ks : List ℕ)
    → map v (filter_map f ks) ≡ filter_map g ks
map_lookups v f g same [] = refl
map_lookups {Y} {Z} v f g same (k ∷ ks) =
    onto (f k) (filter_map f ks) ∙ ap (λ o. cons_option o (map v (filter_map f ks))) (same k) ∙ ap (cons_option (g k)) (map_lookups v f g same ks)
  where
    onto : (o : Option Y) (ys : List Y) → map v (cons_option o ys) ≡ cons_option (option_map v o) (map v ys)
    onto None ys = refl
    onto (Some y) ys = refl

-- the positions of the pins are those of the history
pub positions_held : (turns : List Entry) → map (λ (held : Held). held.position) (pins_held turns) ≡ live_positions turns
positions_held turns =
    map_lookups (λ (held : Held). held.position) (held_at turns) (λ pin. pinned_position (live_pin turns pin)) each (range_with_len 0 (length turns))
  where
    each : (place : ℕ) → option_map (λ (held : Held). held.position) (held_at turns place) ≡ pinned_position (live_pin turns place)
    each place = by (live_pin turns place) refl
      where
        by : (pin : Option (ℕ × ℕ)) → live_pin turns place ≡ pin
            → option_map (λ (held : Held). held.position) (held_at turns place) ≡ pinned_position (live_pin turns place)
        by None none = rw none (ap (option_map (λ (held : Held). held.position)) (none_held place (slice_get turns place)))
        by (Some pin) live =
            let parts = live_parts turns place pin live in
            rw (live, parts.found) refl
