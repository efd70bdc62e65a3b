-- A trim, past by past.
use Rattle.versioned_book.proofs.Names.{◌≡◌, ℕ, zero, suc, ◌+◌, ◌<◌, ◌≤◌, Bool, true, false, nat_eq, List, [], ◌∷◌, ◌++◌, length, map, get_or, slice_get, add-one, None, Some, refl, sym, ap, ◌∙◌, subst, if◌then◌else◌, arith, eqb-true, length-map, slice_get_read, lookup, versions_from, AreWhereTold, newest, older_of, older_total, Chain, Past}
use Rattle.std.proofs.Math.ListN.{set}
use Rattle.versioned_book.proofs.PastSteps.{older_at, older_in, olders-set, place_of, told_of}
use Rattle.versioned_book.proofs.VersionSteps.{some_same}

module _ {V : Type 0} (es : List (ℕ × Chain V)) (floor : ℕ) where
  -- what a trim leaves of a past, after which the newest version of its key stands
  abbrev pub IsCut : ℕ × List (ℕ × V) → ℕ × List (ℕ × V) → Type 0
  IsCut past cut =
      (cut.0 ≡ past.0)
      × ((chain : Chain V) → lookup (nat_eq past.0) es ≡ Some chain → versions_from floor (past.1 ++ newest chain ∷ []) ≡ cut.1 ++ newest chain ∷ [])

  -- so many of the pasts are trimmed, and those after them are as before
  abbrev pub AreCut : ℕ → List (ℕ × List (ℕ × V)) → List (ℕ × List (ℕ × V)) → Type 0
  AreCut zero pasts now = now ≡ pasts
  AreCut (suc n) [] now = now ≡ []
  AreCut (suc n) (p ∷ pasts) [] = ⊥
  AreCut (suc n) (p ∷ pasts) (q ∷ now) = IsCut p q × AreCut n pasts now

  pub cut_more : (n : ℕ) (pasts now : List (ℕ × List (ℕ × V))) (past cut : ℕ × List (ℕ × V)) → AreCut n pasts now → slice_get now n ≡ Some past → IsCut past cut
      → AreCut (suc n) pasts (set now n cut)
  cut_more zero [] now past cut h at is = let clash : None ≡ Some past = ap (λ l. slice_get l 0) (sym h) ∙ at in cc
  cut_more zero (p ∷ pasts) now past cut h at is =
      let same : p ≡ past = some_same p past (ap (λ l. slice_get l 0) (sym h) ∙ at) in
      subst (λ l. AreCut 1 (p ∷ pasts) (set l 0 cut)) (sym h) (subst (λ x. IsCut x cut) (sym same) is, refl)
  cut_more (suc n) [] now past cut h at is = let clash : None ≡ Some past = ap (λ l. slice_get l (suc n)) (sym h) ∙ at in cc
  cut_more (suc n) (p ∷ pasts) [] past cut h at is = absurd h
  cut_more (suc n) (p ∷ pasts) (q ∷ now) past cut h at is = (h.0, cut_more n pasts now past cut h.1 at is)

  -- a key's versions, once all pasts are trimmed
  pub all_cut : (n : ℕ) (pasts now : List (ℕ × List (ℕ × V))) → length pasts ≤ n → AreCut n pasts now → (key : ℕ) (chain : Chain V) → lookup (nat_eq key) es ≡ Some chain
      → versions_from floor (older_of key pasts ++ newest chain ∷ []) ≡ older_of key now ++ newest chain ∷ []
  all_cut zero [] now few h key chain found = sym (ap (λ l. older_of key l ++ newest chain ∷ []) h)
  all_cut zero (p ∷ pasts) now few h key chain found = absurd (omega (arith, few))
  all_cut (suc n) [] now few h key chain found = sym (ap (λ l. older_of key l ++ newest chain ∷ []) h)
  all_cut (suc n) (p ∷ pasts) [] few h key chain found = absurd h
  all_cut (suc n) (p ∷ pasts) (q ∷ now) few h key chain found =
      by (nat_eq key p.0) refl (all_cut n pasts now (omega (arith, few)) h.1 key chain found) ∙ ap (λ k. (if nat_eq key k then q.1 else older_of key now) ++ newest chain ∷ []) (sym h.0.0)
    where
      by : (b : Bool) → nat_eq key p.0 ≡ b → versions_from floor (older_of key pasts ++ newest chain ∷ []) ≡ older_of key now ++ newest chain ∷ []
          → versions_from floor ((if b then p.1 else older_of key pasts) ++ newest chain ∷ []) ≡ (if nat_eq key p.0 then q.1 else older_of key now) ++ newest chain ∷ []
      by true is rest =
          h.0.1 chain (ap (λ k. lookup (nat_eq k) es) (sym (eqb-true key p.0 is)) ∙ found) ∙ ap (λ b. (if b then q.1 else older_of key now) ++ newest chain ∷ []) (sym is)
      by false isnt rest =
          rest ∙ ap (λ b. (if b then q.1 else older_of key now) ++ newest chain ∷ []) (sym isnt)

module _ {V : Type 0} (es : List (ℕ × Chain V)) (floor : ℕ) where
  -- one past more is trimmed
  pub cut_next : (n : ℕ) (pasts : List (ℕ × List (ℕ × V))) (now : List (Past V)) (q r : Past V) → AreCut es floor n pasts (map older_in now)
      → slice_get now n ≡ Some q → r.key ≡ q.key
      → ((chain : Chain V) → lookup (nat_eq q.key) es ≡ Some chain → versions_from floor (q.older.items ++ newest chain ∷ []) ≡ r.older.items ++ newest chain ∷ [])
      → AreCut es floor (n + 1) pasts (map older_in (set now n r))
  cut_next n pasts now q r h at same cuts =
      subst (λ k. AreCut es floor k pasts (map older_in (set now n r))) (sym (add-one n))
      (subst (AreCut es floor (suc n) pasts) (sym (olders-set now n r r.key r.older.items refl refl))
      (cut_more es floor n pasts (map older_in now) (q.key, q.older.items) (r.key, r.older.items) h (older_at now n q q.key at refl) (same, cuts)))

module _ {V : Type 0} (es : List (ℕ × Chain V)) where
  -- what is known of the past at a place, and of the entry of its key
  pub record IsCutting (now : List (Past V)) (n : ℕ) (q : Past V) : Type 0 where
    pub at : slice_get now n ≡ Some q
    pub chain : Chain V
    pub entry : slice_get es q.index ≡ Some (q.key, chain)
    pub few : length q.older.items ≤ older_total (map older_in now)

  pub cutting : (before now : List (Past V)) (n : ℕ) (q : Past V) → AreWhereTold es (map place_of before) → map place_of now ≡ map place_of before
      → n < length before → q ≡ get_or now n q → IsCutting now n q
  cutting before now n q tells same within read =
      let many : n < length now = omega (arith, within, ap length same, length-map now place_of, length-map before place_of) in
      let at : slice_get now n ≡ Some q = slice_get_read now (length now) n q refl many read in
      let place : slice_get (map place_of before) n ≡ Some (place_of q) = ap (λ l. slice_get {X = ℕ × ℕ} l n) (sym same) ∙ place_at now n q at in
      let entry = told_of (slice_get es q.index) q.key n (tells n q.key q.index place) in
      record { at = at; chain = entry.0; entry = entry.1; few = within_total now n q at }
    where
      place_at : (ps : List (Past V)) (n : ℕ) (q : Past V) → slice_get ps n ≡ Some q → slice_get {X = ℕ × ℕ} (map place_of ps) n ≡ Some (q.key, q.index)
      place_at [] n q h = cc
      place_at (p ∷ ps) zero q h = ap (λ x. Some (place_of x)) (some_same p q h)
      place_at (p ∷ ps) (suc n) q h = place_at ps n q h

      within_total : (ps : List (Past V)) (n : ℕ) (q : Past V) → slice_get ps n ≡ Some q → length q.older.items ≤ older_total (map older_in ps)
      within_total [] n q h = cc
      within_total (p ∷ ps) zero q h = omega (arith, ap (λ x. length x.older.items) (some_same p q h))
      within_total (p ∷ ps) (suc n) q h = omega (arith, within_total ps n q h)

pub total-cut : {V : Type 0} (now : List (Past V)) (n : ℕ) (q r : Past V) → slice_get now n ≡ Some q
    → older_total (map older_in (set now n r)) + length q.older.items ≡ older_total (map older_in now) + length r.older.items
total-cut [] n q r at = cc
total-cut (p ∷ now) zero q r at = omega (arith, ap (λ x. length x.older.items) (some_same p q at))
total-cut (p ∷ now) (suc n) q r at = omega (arith, total-cut now n q r at)
