-- What turns of a caller do to its pass, put together
use Rattle.snapshot_value.proofs.Names.{◌≡◌, ℕ, ◌+◌, ◌-◌, ◌≤◌, ◌==◌, Bool, true, false, List, [], ◌∷◌, ◌++◌, length, map, refl, ap, sym, ◌∙◌, append-nil, append_assoc, length-append, arith, enumerate_from, filter, map-append, Entry, Placed, turns_of, Holding, TakesTurn, Grows}
use Rattle.std.proofs.lemmas.Bool.{eq-eqb}
use Rattle.std.proofs.lemmas.List.Elements.{filter-append}
use Rattle.turn_lock.specs.History.{entries_of}

enumerate_from-append : {X : Type 0} (n : ℕ) (xs ys : List X)
    → enumerate_from n (xs ++ ys) ≡ enumerate_from n xs ++ enumerate_from (n + length xs) ys
enumerate_from-append n [] ys = ap (λ k. enumerate_from k ys) (omega arith)
enumerate_from-append n (x ∷ xs) ys =
    ap (λ rest. (n, x) ∷ rest) (enumerate_from-append (n + 1) xs ys
    ∙ ap (λ k. enumerate_from (n + 1) xs ++ enumerate_from k ys) (omega arith))

-- the turns of a caller, the first of which stands at a place
abbrev turns_from : ℕ → List Entry → ℕ → List Placed
turns_from n history caller = filter (λ (placed : Placed). placed.1.caller == caller) (enumerate_from n history)

turns_from-append : (n : ℕ) (front back : List Entry) (caller : ℕ)
    → turns_from n (front ++ back) caller ≡ turns_from n front caller ++ turns_from (n + length front) back caller
turns_from-append n front back caller =
    ap (filter (λ (placed : Placed). placed.1.caller == caller)) (enumerate_from-append n front back)
    ∙ filter-append (λ (placed : Placed). placed.1.caller == caller) (enumerate_from n front) (enumerate_from (n + length front) back)

-- if no entry is the caller's, no turn is
no_turns : (n : ℕ) (history : List Entry) (caller : ℕ) → entries_of history caller ≡ [] → turns_from n history caller ≡ []
no_turns n [] caller none = refl
no_turns n (entry ∷ history) caller none = by (entry.caller == caller) refl (no_turns (n + 1) history caller)
  where
    by : (b : Bool) → (entry.caller == caller) ≡ b
        → (entries_of history caller ≡ [] → turns_from (n + 1) history caller ≡ [])
        → turns_from n (entry ∷ history) caller ≡ []
    by true is later =
        let own : entries_of (entry ∷ history) caller ≡ entry ∷ entries_of history caller = rw is refl in
        let some : entry ∷ entries_of history caller ≡ [] = sym own ∙ none in absurd (cc)
    by false is later =
        let kept : entries_of (entry ∷ history) caller ≡ entries_of history caller = rw is refl in
        let rest : turns_from n (entry ∷ history) caller ≡ turns_from (n + 1) history caller = rw is refl in
        rest ∙ later (sym kept ∙ none)

one_turn : (n : ℕ) (entry : Entry) (caller : ℕ) → entry.caller ≡ caller → turns_from n (entry ∷ []) caller ≡ (n, entry) ∷ []
one_turn n entry caller own = let is : (entry.caller == caller) ≡ true = eq-eqb entry.caller caller own in rw is refl

module _ {O : Type 0} where
  -- none
  pub grows_none : (pass : Holding O) → Grows pass pass []
  grows_none pass = record {
    turnstile = refl;
    opening = refl;
    caller = refl;
    shares = refl;
    ended = refl;
    left = omega arith;
    made = sym (append-nil pass.made);
    begins = ([], sym (append-nil pass.seen));
    turns = sym (append-nil (turns_of pass.seen pass.caller));
  }

  -- some, and then some
  pub grows_more : (old mid new : Holding O) (first then : List Placed) → Grows old mid first → Grows mid new then → Grows old new (first ++ then)
  grows_more old mid new first then grew grows = record {
    turnstile = grows.turnstile ∙ grew.turnstile;
    opening = grows.opening ∙ grew.opening;
    caller = grows.caller ∙ grew.caller;
    shares = grows.shares ∙ grew.shares;
    ended = grows.ended ∙ grew.ended;
    left = omega (arith, grew.left, grows.left, length-append first then);
    made =
        grows.made ∙ ap (λ (made : List Entry). made ++ map (λ (turn : Placed). turn.1) then) grew.made
        ∙ append_assoc old.made (map (λ (turn : Placed). turn.1) first) (map (λ (turn : Placed). turn.1) then)
        ∙ ap (λ more. old.made ++ more) (sym (map-append (λ (turn : Placed). turn.1) first then));
    begins = (
      grew.begins.0 ++ grows.begins.0,
      grows.begins.1 ∙ ap (λ (seen : List Entry). seen ++ grows.begins.0) grew.begins.1
          ∙ append_assoc old.seen grew.begins.0 grows.begins.0,
    );
    turns =
        ap (turns_of new.seen) (sym grew.caller) ∙ grows.turns
        ∙ ap (λ caller. turns_of mid.seen caller ++ then) grew.caller
        ∙ ap (λ (turns : List Placed). turns ++ then) grew.turns
        ∙ append_assoc (turns_of old.seen old.caller) first then;
  }

  -- one
  pub grows_one : (turn : ℕ) (entry : Entry) (old new : Holding O) → 1 ≤ old.left → TakesTurn turn entry old new
      → Grows old new ((turn, entry) ∷ [])
  grows_one turn entry old new some takes = record {
    turnstile = ap (λ (p : Holding O). p.turnstile) takes.new_is;
    opening = ap (λ (p : Holding O). p.opening) takes.new_is;
    caller = ap (λ (p : Holding O). p.caller) takes.new_is;
    shares = ap (λ (p : Holding O). p.shares) takes.new_is;
    ended = ap (λ (p : Holding O). p.ended) takes.new_is;
    left = let less : new.left ≡ old.left - 1 = ap (λ (p : Holding O). p.left) takes.new_is in omega (arith, less, some);
    made = ap (λ (p : Holding O). p.made) takes.new_is;
    begins = (takes.between ++ entry ∷ [], seen_is ∙ append_assoc old.seen takes.between (entry ∷ []));
    turns =
        ap (λ (seen : List Entry). turns_of seen old.caller) seen_is
        ∙ turns_from-append 0 (old.seen ++ takes.between) (entry ∷ []) old.caller
        ∙ ap (λ (turns : List Placed). turns ++ turns_from (0 + length (old.seen ++ takes.between)) (entry ∷ []) old.caller) up_to
        ∙ ap (λ more. turns_of old.seen old.caller ++ more) here;
  }
    where
      seen_is : new.seen ≡ (old.seen ++ takes.between) ++ entry ∷ []
      seen_is = ap (λ (p : Holding O). p.seen) takes.new_is

      up_to : turns_from 0 (old.seen ++ takes.between) old.caller ≡ turns_of old.seen old.caller
      up_to =
          turns_from-append 0 old.seen takes.between old.caller
          ∙ ap (λ more. turns_of old.seen old.caller ++ more) (no_turns (0 + length old.seen) takes.between old.caller takes.others)
          ∙ append-nil (turns_of old.seen old.caller)

      here : turns_from (0 + length (old.seen ++ takes.between)) (entry ∷ []) old.caller ≡ (turn, entry) ∷ []
      here =
          one_turn (0 + length (old.seen ++ takes.between)) entry old.caller takes.caller
          ∙ ap (λ n. (n, entry) ∷ []) (omega (arith, takes.place))
