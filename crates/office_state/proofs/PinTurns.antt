-- The turns that pin a position, read it, give it up or raise the floor
use Rattle.office_state.proofs.Names.{◌≡◌, ℕ, suc, ◌+◌, ◌<◌, ◌≤◌, ◌==◌, false, not, List, [], ◌∷◌, ◌++◌, length, take, drop, map, min, slice_get, filter, refl, sym, ap, ◌∙◌, subst, Some, None, Ok, Err, Result, arith, MatchResult, AllByRecursion, Contains, fold, length-map, take_all, same_Some, Ghosts, WatcherGhosts, Policy, Pinned, Entry, book, Opening, IsDue, IsOwnPin, accepted_of, commands_after, floor_set, gives_up, least_or, live_pin, live_positions, most_pins, pin_of, PinsHold, PinsHold-legal, floor_of-kept, floor_of-set, least-count, records_in, Books, Held, OfficeState, IsHeldBy, MayRead, pins_held, StandsFor, commands_of, floor_kept, opening_of, pins_of, commands_in, floor_in}
use Rattle.arrayvec.specs.ArrayVec.{ArrayVec}
use Rattle.policy_types.specs.declared.entry.PinRefusal.{PinRefusal}
use Rattle.policy_types.specs.declared.entry.PinRefusal.TheVariants.{Ahead, Trimmed, PinsFull}
use Rattle.office_state.specs.declared.held.PinInfo.{PinInfo}
use Rattle.office_state.specs.Turning.{pin_turn, pin_at_turn, read_turn, unpin_turn, trim_turn}
use Rattle.office_state.specs.inside.Pinning.{HasTaken, IsFull}
use Rattle.office_state.proofs.HistorySteps.{faults_met}
use Rattle.office_state.proofs.PinSteps.{among_held, live_among, pins_held-fewer, pins_held-more, pins_held-same, positions_held}
use Rattle.office_state.proofs.TurnSteps.{stands_still}

-- the least of a number and others, from the start on
fold_least : (a n other : ℕ) (ns : List ℕ) → fold min a (n ∷ ns) ≡ min a (least_or other (n ∷ ns))
fold_least a n other [] = refl
fold_least a n other (m ∷ ns) =
    let rest : fold min (min a n) (m ∷ ns) ≡ min (min a n) (least_or other (m ∷ ns)) = fold_least (min a n) m other ns in
    rest ∙ omega arith

least_of : (count : ℕ) (ns : List ℕ) → least_or count ns ≤ count → fold min count ns ≡ least_or count ns
least_of count [] few = refl
least_of count (n ∷ ns) few = fold_least count n count ns ∙ omega (arith, few)

-- no more than the first, and no less than what none of them is below
fold_at_most : (a : ℕ) (ns : List ℕ) → fold min a ns ≤ a
fold_at_most a [] = omega arith
fold_at_most a (n ∷ ns) = let rest : fold min (min a n) ns ≤ min a n = fold_at_most (min a n) ns in omega (arith, rest)

fold_at_least : (low a : ℕ) (ns : List ℕ) → low ≤ a → AllByRecursion (λ n. low ≤ n) ns → low ≤ fold min a ns
fold_at_least low a [] here all = here
fold_at_least low a (n ∷ ns) here all = fold_at_least low (min a n) ns (omega (arith, here, all.0)) all.1

each_position : (low : ℕ) (pins : List Held) → ((held : Held) → Contains pins held → low ≤ held.position)
    → AllByRecursion (λ n. low ≤ n) (map (λ (held : Held). held.position) pins)
each_position low [] each = tt
each_position low (held ∷ pins) each =
    (each held (0, omega arith, refl), each_position low pins (λ other among. each other (suc among.0, omega (arith, among.1), among.2)))

module _ {D W : Type 0} {g : Ghosts D} {w : WatcherGhosts W} (old : OfficeState D W g w) (turns : List Entry) (stands : StandsFor old turns)
    (counted : records_in old.journal ≡ length (commands_of old)) where
  abbrev opening : Opening
  opening = opening_of old

  -- the state after a turn that leaves journal and books
  abbrev after : ArrayVec Held → OfficeState D W g w
  after pins = record {
    journal = old.journal;
    books = old.books;
    watchers = old.watchers;
    turns = old.turns + 1;
    pins = pins;
    outlet = old.outlet;
    begun = old.begun;
    recovered = old.recovered;
    counted = counted;
  }

  step : (entry : Entry) → accepted_of (entry ∷ []) ≡ [] → faults_met (entry ∷ []) ≡ [] → IsDue opening turns entry.caller entry.call entry.reply
      → floor_set entry.reply ≡ None → (pins : ArrayVec Held) → pins.items ≡ pins_held (turns ++ entry ∷ [])
      → StandsFor {w = w} (after pins) (turns ++ entry ∷ [])
  step entry none quiet due unset pins pinned =
      stands_still old turns stands old.books counted entry refl none quiet due pins pinned
      (stands.floor ∙ sym (floor_of-kept turns entry unset)) old.watchers (λ before heard told. told)

  pins_still : (entry : Entry) (pins : ArrayVec Held) → ((n : ℕ) → gives_up n entry.call ≡ false) → pin_of entry.reply ≡ None
      → pins.items ≡ old.pins.items → pins.items ≡ pins_held (turns ++ entry ∷ [])
  pins_still entry pins quiet none same = same ∙ stands.pins ∙ sym (pins_held-same turns entry quiet none)

  pins_taken : (entry : Entry) (pins : ArrayVec Held) (policies : List Policy) (position : ℕ) (info : PinInfo)
      → ((n : ℕ) → gives_up n entry.call ≡ false) → entry.reply ≡ Pinned info.position info.policies
      → HasTaken old.pins.items pins.items policies old.turns entry.caller position info
      → pins.items ≡ pins_held (turns ++ entry ∷ [])
  pins_taken entry pins policies position info quiet replied taken =
      taken.more
      ∙ ap (λ held. held ++ (record { number = old.turns; caller = entry.caller; position = position; policies = length policies }) ∷ []) stands.pins
      ∙ ap (λ n. pins_held turns ++ (record { number = n; caller = entry.caller; position = position; policies = length policies }) ∷ []) stands.turned
      ∙ ap (λ (i : PinInfo). pins_held turns ++ (record { number = length turns; caller = entry.caller; position = i.position; policies = i.policies }) ∷ []) (sym taken.told)
      ∙ sym (pins_held-more turns entry quiet info.position info.policies (ap pin_of replied))

  live_many : length (live_positions turns) ≡ length old.pins.items
  live_many =
      ap length (sym (positions_held turns)) ∙ length-map (pins_held turns) (λ (held : Held). held.position) ∙ ap length (sym stands.pins)

  abbrev Taking : ArrayVec Held → ℕ → ℕ → Result PinInfo PinRefusal → Type 0
  Taking pins caller position result = MatchResult result
      (λ info. HasTaken old.pins.items pins.items (book (take position (commands_of old))) old.turns caller position info)
      (λ refusal. IsFull old.pins.items pins.items refusal)

  -- all commands are pinned
  pub stands_pin : (caller position : ℕ) (pins : ArrayVec Held) (result : Result PinInfo PinRefusal) → position ≡ length (commands_of old)
      → Taking pins caller position result → StandsFor {w = w} (after pins) (turns ++ pin_turn caller result ∷ [])
  stands_pin caller position pins (Ok info) all taken =
      let entry = pin_turn caller (Ok info) in
      let few : length (live_positions turns) < most_pins = omega (arith, live_many, taken.few) in
      let whole : take position (commands_of old) ≡ commands_after opening turns = take_all position (commands_of old) (omega (arith, all)) ∙ stands.listed in
      let due : IsDue opening turns entry.caller entry.call entry.reply = (
        few,
        ap (λ (i : PinInfo). i.position) taken.told ∙ all ∙ ap length stands.listed,
        ap (λ (i : PinInfo). i.policies) taken.told ∙ ap (λ commands. length (book commands)) whole,
      ) in
      step entry refl refl due refl pins (pins_taken entry pins (book (take position (commands_of old))) position info (λ n. refl) refl taken)
  stands_pin caller position pins (Err refusal) all full =
      let entry = pin_turn caller (Err refusal) in
      let many : most_pins ≤ length (live_positions turns) = omega (arith, live_many, full.full) in
      step entry refl refl (subst (λ r. IsDue opening turns caller entry.call (pin_turn caller (Err r)).reply) (sym full.told) many) refl
      pins (pins_still entry pins (λ n. refl) refl full.stay)

  -- a position is pinned that is neither ahead nor trimmed
  pub stands_pin_at : (caller p : ℕ) (pins : ArrayVec Held) (result : Result PinInfo PinRefusal) → p ≤ length (commands_of old) → floor_kept old ≤ p
      → Taking pins caller p result → StandsFor {w = w} (after pins) (turns ++ pin_at_turn caller p result ∷ [])
  stands_pin_at caller p pins (Ok info) reached kept taken =
      let entry = pin_at_turn caller p (Ok info) in
      let few : length (live_positions turns) < most_pins = omega (arith, live_many, taken.few) in
      let due : IsDue opening turns entry.caller entry.call entry.reply = (
        omega (arith, reached, ap length stands.listed),
        omega (arith, kept, stands.floor),
        few,
        ap (λ (i : PinInfo). i.position) taken.told,
        ap (λ (i : PinInfo). i.policies) taken.told ∙ ap (λ commands. length (book (take p commands))) stands.listed,
      ) in
      step entry refl refl due refl pins (pins_taken entry pins (book (take p (commands_of old))) p info (λ n. refl) refl taken)
  stands_pin_at caller p pins (Err refusal) reached kept full =
      let entry = pin_at_turn caller p (Err refusal) in
      let due : IsDue opening turns caller entry.call (pin_at_turn caller p (Err PinsFull)).reply = (
        omega (arith, reached, ap length stands.listed),
        omega (arith, kept, stands.floor),
        omega (arith, live_many, full.full),
      ) in
      step entry refl refl (subst (λ r. IsDue opening turns caller entry.call (pin_at_turn caller p (Err r)).reply) (sym full.told) due) refl
      pins (pins_still entry pins (λ n. refl) refl full.stay)

  -- a position that is ahead
  pub stands_ahead : (caller p count : ℕ) → count ≡ length (commands_of old) → count < p
      → StandsFor {w = w} (after old.pins) (turns ++ pin_at_turn caller p (Err (Ahead count)) ∷ [])
  stands_ahead caller p count counted ahead =
      let entry = pin_at_turn caller p (Err (Ahead count)) in
      let due : IsDue opening turns entry.caller entry.call entry.reply =
      (omega (arith, counted, ahead, ap length stands.listed), counted ∙ ap length stands.listed) in
      step entry refl refl due refl old.pins (pins_still entry old.pins (λ n. refl) refl refl)

  -- a position that is below the floor
  pub stands_trimmed : (caller p : ℕ) → p ≤ length (commands_of old) → p < floor_kept old
      → StandsFor {w = w} (after old.pins) (turns ++ pin_at_turn caller p (Err (Trimmed (floor_kept old))) ∷ [])
  stands_trimmed caller p reached below =
      let entry = pin_at_turn caller p (Err (Trimmed (floor_kept old))) in
      let due : IsDue opening turns entry.caller entry.call entry.reply =
      (omega (arith, reached, ap length stands.listed), omega (arith, below, stands.floor), stands.floor) in
      step entry refl refl due refl old.pins (pins_still entry old.pins (λ n. refl) refl refl)

  -- a pin that is held is live
  held_live : (held : Held) (pin : ℕ) → Contains (pins_of old) held → held.number ≡ pin → live_pin turns pin ≡ Some (held.position, held.policies)
  held_live held pin among number =
      subst (λ place. live_pin turns place ≡ Some (held.position, held.policies)) number
      (among_held turns held (subst (λ pins. Contains pins held) stands.pins among)).live

  -- and its caller's own
  held_own : (caller pin : ℕ) → IsHeldBy (pins_of old) caller pin → IsOwnPin turns caller pin
  held_own caller pin own =
      let parts = among_held turns own.held (subst (λ pins. Contains pins own.held) stands.pins own.among) in
      (parts.entry, subst (λ place. slice_get turns place ≡ Some parts.entry) own.number parts.found, parts.caller ∙ own.holder)

  -- a pin is given up
  pub stands_unpinned : (caller pin : ℕ) (pins : ArrayVec Held) → pins.items ≡ filter (λ (held : Held). not (pin == held.number)) old.pins.items
      → IsHeldBy (pins_of old) caller pin → StandsFor {w = w} (after pins) (turns ++ unpin_turn caller pin ∷ [])
  stands_unpinned caller pin pins fewer own =
      let entry = unpin_turn caller pin in
      let due : IsDue opening turns entry.caller entry.call entry.reply =
      ((own.held.position, own.held.policies), held_live own.held pin own.among own.number, held_own caller pin own) in
      step entry refl refl due refl pins
      (fewer ∙ ap (filter (λ (held : Held). not (pin == held.number))) stands.pins ∙ sym (pins_held-fewer turns entry refl))

  -- the least position of a live pin, or the count, isn't below the floor
  abbrev pub least : ℕ
  least = fold min (length (commands_of old)) (map (λ (held : Held). held.position) old.pins.items)

  in_order : PinsHold opening turns
  in_order = PinsHold-legal opening turns stands.history.legal.due

  least_due : least ≡ least_or (length (commands_after opening turns)) (live_positions turns)
  least_due =
      let count = length (commands_after opening turns) in
      let few : least_or count (live_positions turns) ≤ count =
      least-count turns count (λ pin position policies live. (in_order.pins_in pin position policies live).1) in
      ap (λ n. fold min n (map (λ (held : Held). held.position) old.pins.items)) (ap length stands.listed)
      ∙ ap (λ pins. fold min count (map (λ (held : Held). held.position) pins)) stands.pins
      ∙ ap (fold min count) (positions_held turns) ∙ least_of count (live_positions turns) few

  -- no live pin's position is below the floor
  pub pins_above : (held : Held) → Contains (pins_of old) held → floor_kept old ≤ held.position
  pins_above held among =
      let live = (among_held turns held (subst (λ pins. Contains pins held) stands.pins among)).live in
      omega (arith, (in_order.pins_in held.number held.position held.policies live).0, stands.floor)

  pub least_above : floor_kept old ≤ least
  least_above =
      fold_at_least (floor_kept old) (length (commands_of old)) (map (λ (held : Held). held.position) old.pins.items)
      (omega (arith, in_order.floor_in, stands.floor, ap length stands.listed)) (each_position (floor_kept old) old.pins.items pins_above)

  pub least_reached : least ≤ length (commands_of old)
  least_reached = fold_at_most (length (commands_of old)) (map (λ (held : Held). held.position) old.pins.items)

  -- the floor is raised, and the books keep what it leaves
  pub stands_floor : (caller floor : ℕ) → floor ≡ least → (books : Books) (now_counted : records_in old.journal ≡ length (commands_in books))
      → commands_in books ≡ commands_of old → floor_in books ≡ floor
      → StandsFor {w = w} (record (after old.pins) { books = books; counted = now_counted }) (turns ++ trim_turn caller floor ∷ [])
  stands_floor caller floor is books now_counted same floored =
      let entry = trim_turn caller floor in
      stands_still old turns stands books now_counted entry same refl refl (is ∙ least_due) old.pins
      (pins_still entry old.pins (λ n. refl) refl refl) (floored ∙ sym (floor_of-set turns entry floor refl))
      old.watchers (λ before heard told. told)

  -- a batch is read
  pub stands_read : (caller pin first : ℕ) (held : Held) (policies : List Policy) → MayRead (pins_of old) caller pin first
      → Contains (pins_of old) held → held.number ≡ pin
      → policies ≡ take 256 (drop first (book (take held.position (commands_of old))))
      → StandsFor {w = w} (after old.pins) (turns ++ read_turn caller pin first policies ∷ [])
  stands_read caller pin first held policies may among number filled =
      let entry = read_turn caller pin first policies in
      let own : IsHeldBy (pins_of old) caller pin = record { held = may.held; among = may.among; number = may.number; holder = may.holder } in
      let live = held_live own.held pin own.among own.number in
      let position : held.position ≡ own.held.position =
      ap (λ (p : ℕ × ℕ). p.0) (same_Some _ _ (sym (held_live held pin among number) ∙ live)) in
      let due : IsDue opening turns entry.caller entry.call entry.reply = (
        (own.held.position, own.held.policies),
        live,
        held_own caller pin own,
        may.within,
        filled ∙ ap (λ p. take 256 (drop first (book (take p (commands_of old))))) position
            ∙ ap (λ commands. take 256 (drop first (book (take own.held.position commands)))) stands.listed,
      ) in
      step entry refl refl due refl old.pins (pins_still entry old.pins (λ n. refl) refl refl)

module _ {D W : Type 0} {g : Ghosts D} {w : WatcherGhosts W} (state : OfficeState D W g w) (turns : List Entry) (stands : StandsFor state turns) where
  -- what a caller of a history knows of its pin is what a read and an unpin of it need
  pub held_by_caller : (caller pin : ℕ) (held : ℕ × ℕ) → live_pin turns pin ≡ Some held → IsOwnPin turns caller pin
      → IsHeldBy (pins_of state) caller pin
  held_by_caller caller pin held live own =
      let this : Held = record { number = pin; caller = own.0.caller; position = held.0; policies = held.1 } in
      record {
        held = this;
        among = subst (λ pins. Contains pins this) (sym stands.pins) (live_among turns pin own.0 held.0 held.1 own.1 live);
        number = refl;
        holder = own.2;
      }

  pub may_read : (caller pin first : ℕ) (held : ℕ × ℕ) → live_pin turns pin ≡ Some held → IsOwnPin turns caller pin → first ≤ held.1
      → MayRead (pins_of state) caller pin first
  may_read caller pin first held live own within =
      let this : Held = record { number = pin; caller = own.0.caller; position = held.0; policies = held.1 } in
      record {
        held = this;
        among = subst (λ pins. Contains pins this) (sym stands.pins) (live_among turns pin own.0 held.0 held.1 own.1 live);
        number = refl;
        holder = own.2;
        within = within;
      }
