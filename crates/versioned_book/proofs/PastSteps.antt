-- A book's pasts: what is found at a place, and one older version more.
use Rattle.versioned_book.proofs.Names.{◌≡◌, ℕ, zero, suc, ◌+◌, ◌<◌, ◌≤◌, Bool, true, false, ◌||◌, nat_eq, List, [], ◌∷◌, ◌++◌, length, map, get_or, slice_get, vec_len, vec_capacity, Option, None, Some, refl, sym, ap, ◌∙◌, subst, if◌then◌else◌, ◌⊎◌, inl, inr, arith, length_push, list_any, lookup, entry_keys, set_value_at, Chain, Past, AreApart, AreWhereTold, HasPastRoom, IsDeeper, PlacesAfter, is_key, older_of, own_older, places_in, place_by_entry, older_total}
use Rattle.std.proofs.Math.ListN.{set}
use Rattle.std.proofs.lemmas.Bool.{eqb-true, eq-eqb}
use Rattle.versioned_book.specs.declared.past.Pasts.{Pasts}
use Rattle.versioned_book.proofs.VersionSteps.{some_same}
use Rattle.versioned_book.proofs.SettingSteps.{any_absent}
use Rattle.versioned_book.proofs.Apart.{any-place, apart_from, key_there, lookup_at, past_at, same_place}

-- what stands at a place of a list stands there in a longer one
pub get_old : {X : Type 0} (xs ys : List X) (i : ℕ) (x : X) → slice_get xs i ≡ Some x → slice_get (xs ++ ys) i ≡ Some x
get_old [] ys i x h = cc
get_old (y ∷ xs) ys zero x h = h
get_old (y ∷ xs) ys (suc i) x h = get_old xs ys i x h

-- an item of a list with one more is one of the list, or the last
pub get_push : {X : Type 0} (xs : List X) (y z : X) (i : ℕ) → slice_get (xs ++ y ∷ []) i ≡ Some z → (slice_get xs i ≡ Some z) ⊎ ((i ≡ length xs) × (z ≡ y))
get_push [] y z zero h = inr (refl, sym (some_same y z h))
get_push [] y z (suc i) h = cc
get_push (x ∷ xs) y z zero h = inl h
get_push (x ∷ xs) y z (suc i) h = elim (get_push xs y z i h) [ inl a ↦ inl a | inr b ↦ inr (ap suc b.0, b.1) ]

self_eq : (n : ℕ) → nat_eq n n ≡ true
self_eq n = eq-eqb n n refl

-- a key that isn't among the pasts has none at any place
not_there : {X : Type 0} (key : ℕ) (ps : List (ℕ × X)) (n : ℕ) → list_any (nat_eq key) (entry_keys ps) ≡ false → is_key key (slice_get ps n) ≡ false
not_there {X} key ps n h = by (slice_get ps n) refl
  where
    by : (o : Option (ℕ × X)) → slice_get ps n ≡ o → is_key key o ≡ false
    by None e = refl
    by (Some p) e = test (nat_eq p.0 key) refl
      where
        test : (b : Bool) → nat_eq p.0 key ≡ b → b ≡ false
        test false is = refl
        test true is =
            let there : list_any (nat_eq key) (entry_keys ps) ≡ true = any-place key (entry_keys ps) n (key_there ps n p.0 p.1 e ∙ ap Some (eqb-true p.0 key is)) in cc

module _ {V : Type 0} where
  -- what an entry states
  pub told_of : (o : Option (ℕ × Chain V)) (key n : ℕ) → place_by_entry o ≡ Some (key, n) → (chain : Chain V) × (o ≡ Some (key, chain)) × (chain.past ≡ n)
  told_of None key n h = cc
  told_of (Some e) key n h =
      let same : (e.0, e.1.past) ≡ (key, n) = some_same (e.0, e.1.past) (key, n) h in
      (e.1, ap (λ k. Some (k, e.1)) (ap (λ x. x.0) same), ap (λ x. x.1) same)

  module _ (es : List (ℕ × Chain V)) (places : List (ℕ × ℕ)) (apart : AreApart (entry_keys es)) (tells : AreWhereTold es places) where
    -- no two pasts are of one key
    pub places_apart : AreApart (entry_keys places)
    places_apart = apart_from places one
      where
        one : (n m key i j : ℕ) → slice_get places n ≡ Some (key, i) → slice_get places m ≡ Some (key, j) → n ≡ m
        one n m key i j at other =
            let a = told_of (slice_get es i) key n (tells n key i at) in
            let b = told_of (slice_get es j) key m (tells m key j other) in
            let here : i ≡ j = same_place (entry_keys es) i j key apart (key_there es i key a.0 a.1) (key_there es j key b.0 b.1) in
            let both : Some (key, n) ≡ Some (key, m) = sym (tells n key i at) ∙ ap (λ k. place_by_entry (slice_get es k)) here ∙ tells m key j other in
            ap (λ x. x.1) (some_same (key, n) (key, m) both)

    -- whether a key has a past is seen at the place that its entry states
    pub seen_there : (key : ℕ) (chain : Chain V) → lookup (nat_eq key) es ≡ Some chain → is_key key (slice_get places chain.past) ≡ list_any (nat_eq key) (entry_keys places)
    seen_there key chain found = by (list_any (nat_eq key) (entry_keys places)) refl
      where
        by : (b : Bool) → list_any (nat_eq key) (entry_keys places) ≡ b → is_key key (slice_get places chain.past) ≡ b
        by false is = not_there key places chain.past is
        by true is =
            let p = past_at key places is in
            let a = told_of (slice_get es p.1) key p.0 (tells p.0 key p.1 p.2) in
            let same : chain ≡ a.0 = some_same chain a.0 (sym found ∙ lookup_at es p.1 key a.0 apart a.1) in
            let at : chain.past ≡ p.0 = ap (λ c. c.past) same ∙ a.2 in
            ap (λ n. is_key key (slice_get places n)) at ∙ ap (is_key key) p.2 ∙ self_eq key

  -- a key without an entry has no past
  pub no_past : (es : List (ℕ × Chain V)) (places : List (ℕ × ℕ)) (key : ℕ) → AreWhereTold es places → lookup (nat_eq key) es ≡ None → list_any (nat_eq key) (entry_keys places) ≡ false
  no_past es places key tells none = by (list_any (nat_eq key) (entry_keys places)) refl
    where
      by : (b : Bool) → list_any (nat_eq key) (entry_keys places) ≡ b → b ≡ false
      by false is = refl
      by true is =
          let p = past_at key places is in
          let a = told_of (slice_get es p.1) key p.0 (tells p.0 key p.1 p.2) in
          let there : list_any (nat_eq key) (entry_keys es) ≡ true = any-place key (entry_keys es) p.1 (key_there es p.1 key a.0 a.1) in
          let clash : true ≡ false = sym there ∙ any_absent key es none in cc

  pub told_more : (es more : List (ℕ × Chain V)) (places : List (ℕ × ℕ)) → AreWhereTold es places → AreWhereTold (es ++ more) places
  told_more es more places tells n key index at =
      let a = told_of (slice_get es index) key n (tells n key index at) in
      ap place_by_entry (get_old es more index (key, a.0) a.1 ∙ sym a.1) ∙ tells n key index at

  -- a key's older versions
  pub older_none : (key : ℕ) (ps : List (ℕ × List (ℕ × V))) → list_any (nat_eq key) (entry_keys ps) ≡ false → older_of key ps ≡ []
  older_none key [] h = refl
  older_none key (p ∷ ps) h = by (nat_eq key p.0) h (older_none key ps)
    where
      by : (b : Bool) → (b || list_any (nat_eq key) (entry_keys ps)) ≡ false → (list_any (nat_eq key) (entry_keys ps) ≡ false → older_of key ps ≡ [])
          → (if b then p.1 else older_of key ps) ≡ []
      by true g rest = cc
      by false g rest = rest g

  -- what stands at a place of the key's own
  pub older_there : (ps : List (ℕ × List (ℕ × V))) (n key : ℕ) (older : List (ℕ × V)) → AreApart (entry_keys ps) → slice_get ps n ≡ Some (key, older) → older_of key ps ≡ older
  older_there [] n key older apart at = cc
  older_there (p ∷ ps) zero key older apart at =
      ap (λ x. older_of key (x ∷ ps)) (some_same p (key, older) at) ∙ ap (λ b. if b then older else older_of key ps) (self_eq key)
  older_there (p ∷ ps) (suc n) key older apart at = by (nat_eq key p.0) refl (older_there ps n key older apart.1 at)
    where
      by : (b : Bool) → nat_eq key p.0 ≡ b → older_of key ps ≡ older → (if b then p.1 else older_of key ps) ≡ older
      by false e rest = rest
      by true e rest =
          let there : list_any (nat_eq p.0) (entry_keys ps) ≡ true =
          any-place p.0 (entry_keys ps) n (key_there ps n key older at ∙ ap Some (eqb-true key p.0 e)) in cc

  -- one more version at the place of a key's past, which is the only one
  pub deeper_there : (ps : List (ℕ × List (ℕ × V))) (n key : ℕ) (older : List (ℕ × V)) (v : ℕ × V) → AreApart (entry_keys ps) → slice_get ps n ≡ Some (key, older)
      → IsDeeper ps (set ps n (key, older ++ v ∷ [])) key v
  deeper_there [] n key older v apart at = cc
  deeper_there (p ∷ ps) zero key older v apart at = subst (λ x. IsDeeper (x ∷ ps) ((key, older ++ v ∷ []) ∷ ps) key v) (sym (some_same p (key, older) at)) (record {
    own = ap (λ b. if b then older ++ v ∷ [] else older_of key ps) (self_eq key) ∙ ap (λ b. (if b then older else older_of key ps) ++ v ∷ []) (sym (self_eq key));
    others = λ k isnt. beside (older ++ v ∷ []) k isnt ∙ sym (beside older k isnt);
    total = omega (arith, length_push older v);
  })
    where
      beside : (l : List (ℕ × V)) (k : ℕ) → nat_eq key k ≡ false → older_of k ((key, l) ∷ ps) ≡ older_of k ps
      beside l k isnt = by (nat_eq k key) refl
        where
          by : (b : Bool) → nat_eq k key ≡ b → (if b then l else older_of k ps) ≡ older_of k ps
          by false e = refl
          by true e = let yes : nat_eq key k ≡ true = eq-eqb key k (sym (eqb-true k key e)) in cc
  deeper_there (p ∷ ps) (suc n) key older v apart at =
      let rest = deeper_there ps n key older v apart.1 at in
      let past : nat_eq key p.0 ≡ false = by (nat_eq key p.0) refl in
      record {
        own = ap (λ b. if b then p.1 else older_of key (set ps n (key, older ++ v ∷ []))) past ∙ rest.own ∙ ap (λ b. (if b then p.1 else older_of key ps) ++ v ∷ []) (sym past);
        others = λ k isnt. ap (λ l. if nat_eq k p.0 then p.1 else l) (rest.others k isnt);
        total = omega (arith, rest.total);
      }
    where
      by : (b : Bool) → nat_eq key p.0 ≡ b → b ≡ false
      by false e = refl
      by true e =
          let there : list_any (nat_eq p.0) (entry_keys ps) ≡ true =
          any-place p.0 (entry_keys ps) n (key_there ps n key older at ∙ ap Some (eqb-true key p.0 e)) in cc

  -- the first older version of a key
  pub deeper_new : (ps : List (ℕ × List (ℕ × V))) (key : ℕ) (v : ℕ × V) → list_any (nat_eq key) (entry_keys ps) ≡ false → IsDeeper ps (ps ++ (key, v ∷ []) ∷ []) key v
  deeper_new [] key v h = record {
    own = ap (λ b. if b then v ∷ [] else []) (self_eq key);
    others = λ k isnt. by k (nat_eq k key) refl isnt;
    total = refl;
  }
    where
      by : (k : ℕ) (b : Bool) → nat_eq k key ≡ b → nat_eq key k ≡ false → (if b then v ∷ [] else []) ≡ []
      by k false e isnt = refl
      by k true e isnt = let yes : nat_eq key k ≡ true = eq-eqb key k (sym (eqb-true k key e)) in cc
  deeper_new (p ∷ ps) key v h = by (nat_eq key p.0) refl h (deeper_new ps key v)
    where
      by : (b : Bool) → nat_eq key p.0 ≡ b → (b || list_any (nat_eq key) (entry_keys ps)) ≡ false
          → (list_any (nat_eq key) (entry_keys ps) ≡ false → IsDeeper ps (ps ++ (key, v ∷ []) ∷ []) key v) → IsDeeper (p ∷ ps) (p ∷ ps ++ (key, v ∷ []) ∷ []) key v
      by true e g more = cc
      by false e g more =
          let rest = more g in
          record {
            own = ap (λ b. if b then p.1 else older_of key (ps ++ (key, v ∷ []) ∷ [])) e ∙ rest.own ∙ ap (λ b. (if b then p.1 else older_of key ps) ++ v ∷ []) (sym e);
            others = λ k isnt. ap (λ l. if nat_eq k p.0 then p.1 else l) (rest.others k isnt);
            total = omega (arith, rest.total);
          }

  -- what stands at a place, if it is the key's or the key has nothing
  pub own_is_older : (ps : List (ℕ × List (ℕ × V))) (n key : ℕ) → AreApart (entry_keys ps) → is_key key (slice_get ps n) ≡ list_any (nat_eq key) (entry_keys ps)
      → own_older key (slice_get ps n) ≡ older_of key ps
  own_is_older ps n key apart seen = by (slice_get ps n) refl
    where
      by : (o : Option (ℕ × List (ℕ × V))) → slice_get ps n ≡ o → own_older key o ≡ older_of key ps
      by None e = sym (older_none key ps (sym seen ∙ ap (is_key key) e))
      by (Some p) e = test (nat_eq p.0 key) refl
        where
          test : (b : Bool) → nat_eq p.0 key ≡ b → own_older key (Some p) ≡ older_of key ps
          test true is =
              let this : p.0 ≡ key = eqb-true p.0 key is in
              ap (λ b. if b then p.1 else []) (eq-eqb key p.0 (sym this)) ∙ sym (older_there ps n key p.1 apart (e ∙ ap (λ k. Some (k, p.1)) this))
          test false isnt = other (nat_eq key p.0) refl
            where
              other : (b : Bool) → nat_eq key p.0 ≡ b → (if b then p.1 else []) ≡ older_of key ps
              other true is = let yes : nat_eq p.0 key ≡ true = eq-eqb p.0 key (sym (eqb-true key p.0 is)) in cc
              other false e' = sym (older_none key ps (sym seen ∙ ap (is_key key) e ∙ isnt))

  -- what is written at the place of an entry
  get_set : (es : List (ℕ × Chain V)) (i key : ℕ) (chain w : Chain V) → slice_get es i ≡ Some (key, chain) → slice_get (set_value_at es i w) i ≡ Some (key, w)
  get_set [] i key chain w h = cc
  get_set (e ∷ es) zero key chain w h = ap (λ x. Some (x.0, w)) (some_same e (key, chain) h)
  get_set (e ∷ es) (suc i) key chain w h = get_set es i key chain w h

  get_beside : (es : List (ℕ × Chain V)) (i j : ℕ) (w : Chain V) → nat_eq j i ≡ false → slice_get (set_value_at es i w) j ≡ slice_get es j
  get_beside [] i j w h = refl
  get_beside (e ∷ es) zero zero w h = cc
  get_beside (e ∷ es) zero (suc j) w h = refl
  get_beside (e ∷ es) (suc i) zero w h = refl
  get_beside (e ∷ es) (suc i) (suc j) w h = get_beside es i j w (apart (nat_eq j i) refl)
    where
      apart : (b : Bool) → nat_eq j i ≡ b → b ≡ false
      apart false is = refl
      apart true is = let yes : nat_eq (suc j) (suc i) ≡ true = eq-eqb (suc j) (suc i) (ap suc (eqb-true j i is)) in cc

  -- one older version more of an entry's key, and the place that it reports from then on
  pub told_after : (es : List (ℕ × Chain V)) (before after : List (ℕ × ℕ)) (key index : ℕ) (chain w : Chain V) → slice_get es index ≡ Some (key, chain)
      → AreWhereTold es before → PlacesAfter before after key index chain.past w.past → AreWhereTold (set_value_at es index w) after
  told_after es before after key index chain w entry tells step n k i at = by step
    where
      here : (n k i : ℕ) → slice_get before n ≡ Some (k, i) → i ≡ index → (k ≡ key) × (n ≡ chain.past)
      here n k i at is =
          let same : Some (k, n) ≡ Some (key, chain.past) = sym (tells n k i at) ∙ ap (λ j. place_by_entry (slice_get es j)) is ∙ ap place_by_entry entry in
          let pair = some_same (k, n) (key, chain.past) same in
          (ap (λ x. x.0) pair, ap (λ x. x.1) pair)

      now : place_by_entry (slice_get (set_value_at es index w) index) ≡ Some (key, w.past)
      now = ap place_by_entry (get_set es index key chain w entry)

      beside : slice_get before n ≡ Some (k, i) → nat_eq i index ≡ false → place_by_entry (slice_get (set_value_at es index w) i) ≡ Some (k, n)
      beside old isnt = ap place_by_entry (get_beside es index i w isnt) ∙ tells n k i old

      by : PlacesAfter before after key index chain.past w.past → place_by_entry (slice_get (set_value_at es index w) i) ≡ Some (k, n)
      by (inl same) = or_here (nat_eq i index) refl
        where
          old : slice_get before n ≡ Some (k, i)
          old = ap (λ l. slice_get l n) (sym same.0) ∙ at

          or_here : (b : Bool) → nat_eq i index ≡ b → place_by_entry (slice_get (set_value_at es index w) i) ≡ Some (k, n)
          or_here false isnt = beside old isnt
          or_here true is =
              let this = here n k i old (eqb-true i index is) in
              ap (λ j. place_by_entry (slice_get (set_value_at es index w) j)) (eqb-true i index is) ∙ now
              ∙ ap (λ j. Some (key, j)) (same.1 ∙ sym this.1) ∙ ap (λ x. Some (x, n)) (sym this.0)
      by (inr more) = pushed (get_push before (key, index) (k, i) n (ap (λ l. slice_get l n) (sym more.0) ∙ at))
        where
          pushed : (slice_get before n ≡ Some (k, i)) ⊎ ((n ≡ length before) × (◌≡◌ {A = ℕ × ℕ} (k, i) (key, index))) → place_by_entry (slice_get (set_value_at es index w) i) ≡ Some (k, n)
          pushed (inr last) =
              ap (λ x. place_by_entry (slice_get (set_value_at es index w) x.1)) last.1 ∙ now
              ∙ ap (λ j. Some (key, j)) (more.1 ∙ sym last.0) ∙ ap (λ x. Some (x.0, n)) (sym last.1)
          pushed (inl old) = or_here (nat_eq i index) refl
            where
              or_here : (b : Bool) → nat_eq i index ≡ b → place_by_entry (slice_get (set_value_at es index w) i) ≡ Some (k, n)
              or_here false isnt = beside old isnt
              or_here true is =
                  let this = here n k i old (eqb-true i index is) in
                  let there : is_key key (slice_get before chain.past) ≡ true =
                  ap (λ j. is_key key (slice_get before j)) (sym this.1) ∙ ap (is_key key) old ∙ eq-eqb k key this.0 in
                  let clash : true ≡ false = sym there ∙ more.2 in cc

  -- the keys of the places are those of the versions
  pub same_keys : (ps : List (Past V)) → entry_keys (map (λ past. (past.key, past.index)) ps) ≡ entry_keys (map (λ past. (past.key, past.older.items)) ps)
  same_keys [] = refl
  same_keys (p ∷ ps) = ap (λ l. p.key ∷ l) (same_keys ps)

  -- and so is what a test of a place sees
  pub same_test : (ps : List (Past V)) (n key : ℕ) → is_key key (slice_get (map (λ past. (past.key, past.index)) ps) n) ≡ is_key key (slice_get (map (λ past. (past.key, past.older.items)) ps) n)
  same_test [] n key = refl
  same_test (p ∷ ps) zero key = refl
  same_test (p ∷ ps) (suc n) key = same_test ps n key

abbrev pair : {A B : Type 0} → A → B → A × B
pair a b = (a, b)

pair_same : {A B : Type 0} (a c : A) (b d : B) → a ≡ c → b ≡ d → pair a b ≡ pair c d
pair_same a c b d e f = ap (λ x. pair x b) e ∙ ap (pair c) f

module _ {V : Type 0} where
  abbrev pub place_of : Past V → ℕ × ℕ
  place_of past = (past.key, past.index)

  abbrev pub older_in : Past V → ℕ × List (ℕ × V)
  older_in past = (past.key, past.older.items)

  -- a past that is found at a place
  pub own_there : (ps : List (Past V)) (n key : ℕ) (q : Past V) → is_key {X = ℕ} key (slice_get (map place_of ps) n) ≡ true → q ≡ get_or ps n q
      → (slice_get ps n ≡ Some q) × (q.key ≡ key)
  own_there [] n key q seen at = cc
  own_there (p ∷ ps) zero key q seen at = (ap Some (sym at), ap (λ x. x.key) at ∙ eqb-true p.key key seen)
  own_there (p ∷ ps) (suc n) key q seen at = own_there ps n key q seen at

  -- a past that is written with its key and its entry's place as before
  pub places-set : (ps : List (Past V)) (n : ℕ) (q r : Past V) → slice_get ps n ≡ Some q → r.key ≡ q.key → r.index ≡ q.index
      → map place_of (set ps n r) ≡ map place_of ps
  places-set [] n q r at key index = refl
  places-set (p ∷ ps) zero q r at key index =
      ap (λ x. x ∷ map place_of ps) (pair_same r.key p.key r.index p.index (key ∙ sym (ap (λ x. x.key) (some_same p q at))) (index ∙ sym (ap (λ x. x.index) (some_same p q at))))
  places-set (p ∷ ps) (suc n) q r at key index = ap (λ l. place_of p ∷ l) (places-set ps n q r at key index)

  pub olders-set : (ps : List (Past V)) (n : ℕ) (r : Past V) (key : ℕ) (l : List (ℕ × V)) → r.key ≡ key → r.older.items ≡ l
      → map older_in (set ps n r) ≡ set (map older_in ps) n (key, l)
  olders-set [] n r key l is items = refl
  olders-set (p ∷ ps) zero r key l is items = ap (λ x. x ∷ map older_in ps) (pair_same r.key key r.older.items l is items)
  olders-set (p ∷ ps) (suc n) r key l is items = ap (λ x. older_in p ∷ x) (olders-set ps n r key l is items)

  pub olders_same : (ps : List (Past V)) (n : ℕ) (q r : Past V) → slice_get ps n ≡ Some q → r.key ≡ q.key → r.older.items ≡ q.older.items
      → map older_in (set ps n r) ≡ map older_in ps
  olders_same [] n q r at key items = refl
  olders_same (p ∷ ps) zero q r at key items =
      ap (λ x. x ∷ map older_in ps)
      (pair_same r.key p.key r.older.items p.older.items (key ∙ sym (ap (λ x. x.key) (some_same p q at))) (items ∙ sym (ap (λ x. x.older.items) (some_same p q at))))
  olders_same (p ∷ ps) (suc n) q r at key items = ap (λ l. older_in p ∷ l) (olders_same ps n q r at key items)

  olders-push : (ps : List (Past V)) (q : Past V) (key : ℕ) (l : List (ℕ × V)) → q.key ≡ key → q.older.items ≡ l
      → map older_in (ps ++ q ∷ []) ≡ map older_in ps ++ (key, l) ∷ []
  olders-push [] q key l is items = ap (λ x. x ∷ []) (pair_same q.key key q.older.items l is items)
  olders-push (p ∷ ps) q key l is items = ap (λ x. older_in p ∷ x) (olders-push ps q key l is items)

  pub older_at : (ps : List (Past V)) (n : ℕ) (q : Past V) (key : ℕ) → slice_get ps n ≡ Some q → q.key ≡ key
      → slice_get {X = ℕ × List (ℕ × V)} (map older_in ps) n ≡ Some (key, q.older.items)
  older_at [] n q key at is = cc
  older_at (p ∷ ps) zero q key at is = ap (λ x. Some (older_in x)) (some_same p q at) ∙ ap Some (pair_same q.key key q.older.items q.older.items is refl)
  older_at (p ∷ ps) (suc n) q key at is = older_at ps n q key at is

  -- one more version at the place of a key's past
  module _ (ps : List (Past V)) (n key : ℕ) (q r : Past V) (v : ℕ × V) (seen : is_key {X = ℕ} key (slice_get (map place_of ps) n) ≡ true)
      (at : q ≡ get_or ps n q) (same : r.key ≡ q.key) where
    pub places_kept : r.index ≡ q.index → map place_of (set ps n r) ≡ map place_of ps
    places_kept index = places-set ps n q r (own_there ps n key q seen at).0 same index

    pub deeper_set : AreApart (entry_keys (map place_of ps)) → r.older.items ≡ q.older.items ++ v ∷ []
        → IsDeeper (map older_in ps) (map older_in (set ps n r)) key v
    deeper_set apart items =
        let there = own_there ps n key q seen at in
        subst (λ l. IsDeeper (map older_in ps) l key v)
        (sym (olders-set ps n r key (q.older.items ++ v ∷ []) (same ∙ there.1) items))
        (deeper_there (map older_in ps) n key q.older.items v (subst AreApart (same_keys ps) apart) (older_at ps n q key there.0 there.1))

  -- the first past of a key
  pub deeper_pushed : (ps more : List (Past V)) (key : ℕ) (q : Past V) (v : ℕ × V) → more ≡ ps ++ q ∷ [] → q.key ≡ key → q.older.items ≡ v ∷ []
      → list_any (nat_eq key) (entry_keys (map place_of ps)) ≡ false
      → IsDeeper (map older_in ps) (map older_in more) key v
  deeper_pushed ps more key q v pushed is items none =
      subst (λ l. IsDeeper (map older_in ps) l key v)
      (sym (ap (map older_in) pushed ∙ olders-push ps q key (v ∷ []) is items))
      (deeper_new (map older_in ps) key v (subst (λ ks. list_any (nat_eq key) ks ≡ false) (same_keys ps) none))

  -- what is written at a place stands there
  get_written : (ps : List (Past V)) (n : ℕ) (q r : Past V) → slice_get ps n ≡ Some q → slice_get (set ps n r) n ≡ Some r
  get_written [] n q r at = cc
  get_written (p ∷ ps) zero q r at = refl
  get_written (p ∷ ps) (suc n) q r at = get_written ps n q r at

  place_seen : (ps : List (Past V)) (n key : ℕ) (r : Past V) → slice_get ps n ≡ Some r → r.key ≡ key → is_key {X = ℕ} key (slice_get (map place_of ps) n) ≡ true
  place_seen [] n key r at is = cc
  place_seen (p ∷ ps) zero key r at is = ap (λ x. nat_eq x.key key) (some_same p r at) ∙ eq-eqb r.key key is
  place_seen (p ∷ ps) (suc n) key r at is = place_seen ps n key r at is

  -- if a place isn't the key's, no version there is
  pub none_own : (ps : List (Past V)) (n key : ℕ) → is_key {X = ℕ} key (slice_get (map place_of ps) n) ≡ false → own_older key (slice_get (map older_in ps) n) ≡ []
  none_own [] n key none = refl
  none_own (p ∷ ps) zero key none = by (nat_eq key p.key) refl
    where
      by : (b : Bool) → nat_eq key p.key ≡ b → (if b then p.older.items else []) ≡ []
      by false e = refl
      by true e = let yes : nat_eq p.key key ≡ true = eq-eqb p.key key (sym (eqb-true key p.key e)) in cc
  none_own (p ∷ ps) (suc n) key none = none_own ps n key none

  -- room at the place of a key's past
  pub room_there : (new : Pasts V) (ps : List (Past V)) (n key : ℕ) (q r : Past V) → new.list.items ≡ set ps n r → is_key {X = ℕ} key (slice_get (map place_of ps) n) ≡ true
      → q ≡ get_or ps n q → r.key ≡ q.key → vec_len r.older < vec_capacity r.older → HasPastRoom new key n
  room_there new ps n key q r items seen at same room =
      let there = own_there ps n key q seen at in
      let now : slice_get new.list.items n ≡ Some r = ap (λ l. slice_get l n) items ∙ get_written ps n q r there.0 in
      record {
        own = λ past found is. subst (λ x. vec_len x.older < vec_capacity x.older) (some_same r past (sym now ∙ found)) room;
        fresh = λ none. (let yes : is_key key (slice_get (places_in new) n) ≡ true = place_seen new.list.items n key r now (same ∙ there.1) in cc);
      }

  -- room for the first past of a key
  pub room_new : (new : Pasts V) (ps : List (Past V)) (n key : ℕ) → new.list.items ≡ ps → is_key {X = ℕ} key (slice_get (map place_of ps) n) ≡ false
      → vec_len new.list < vec_capacity new.list → 0 < vec_capacity new.ready → HasPastRoom new key n
  room_new new ps n key items none listing ready = record {
    own = λ past found is. (
        let yes : is_key {X = ℕ} key (slice_get (map place_of ps) n) ≡ true = place_seen ps n key past (ap (λ l. slice_get l n) (sym items) ∙ found) (eqb-true past.key key is) in cc
        );
    fresh = λ _. (listing, ready);
  }

  -- if no older version is left, there is none of any key
  pub none_left : (ps : List (ℕ × List (ℕ × V))) (key : ℕ) → older_total ps ≡ 0 → older_of key ps ≡ []
  none_left [] key none = refl
  none_left (p ∷ ps) key none = by (nat_eq key p.0) p.1 (omega (arith, none)) (none_left ps key (omega (arith, none)))
    where
      by : (b : Bool) (l : List (ℕ × V)) → length l ≡ 0 → older_of key ps ≡ [] → (if b then l else older_of key ps) ≡ []
      by false l few rest = rest
      by true [] few rest = refl
      by true (v ∷ l) few rest = absurd (omega (arith, few))

  pub none_told : (es : List (ℕ × Chain V)) (places : List (ℕ × ℕ)) → places ≡ [] → AreWhereTold es places
  none_told es places none n key index at = let clash : ◌≡◌ {A = Option (ℕ × ℕ)} None (Some (key, index)) = ap (λ l. slice_get {X = ℕ × ℕ} l n) (sym none) ∙ at in cc

-- at most one more place
pub few_after : (before after : List (ℕ × ℕ)) (key index place now : ℕ) → PlacesAfter before after key index place now → length after ≤ length before + 1
few_after before after key index place now (inl same) = omega (arith, ap length same.0)
few_after before after key index place now (inr more) = omega (arith, ap length more.0, length_push before (key, index))
