-- One more setting: the keys, the versions of each, and how many keys there were at a position.
use Rattle.versioned_book.proofs.Names.{◌≡◌, ℕ, zero, suc, ◌+◌, ◌<◌, ◌≤◌, Bool, true, false, nat_eq, nat_le, nat_lt, List, [], ◌∷◌, ◌++◌, length, filter, slice_get, None, Some, refl, sym, ap, ◌∙◌, subst, if◌then◌else◌, cond, ◌||◌, eq-eqb, append-nil, arith, leb-true, leb-false, le-leb, lt-leb, list_any, lookup, entry_keys, IsRising, IsRisingTo, Setting, settings_after, keys_after, keys_of, own, positions, until, with_key}
use Rattle.std.proofs.lemmas.List.Elements.{filter-append}

-- a key is among the keys exactly if a look-up finds it
pub any_found : {X : Type 0} (key : ℕ) (es : List (ℕ × X)) (x : X) → lookup (nat_eq key) es ≡ Some x → list_any (nat_eq key) (entry_keys es) ≡ true
any_found key [] x h = cc
any_found key (e ∷ es) x h = by (nat_eq key e.0) h (any_found key es x)
  where
    by : (b : Bool) → cond b (Some e.1) (lookup (nat_eq key) es) ≡ Some x → (lookup (nat_eq key) es ≡ Some x → list_any (nat_eq key) (entry_keys es) ≡ true)
        → (b || list_any (nat_eq key) (entry_keys es)) ≡ true
    by true h rest = refl
    by false h rest = rest h

pub any_absent : {X : Type 0} (key : ℕ) (es : List (ℕ × X)) → lookup (nat_eq key) es ≡ None → list_any (nat_eq key) (entry_keys es) ≡ false
any_absent key [] h = refl
any_absent key (e ∷ es) h = by (nat_eq key e.0) h (any_absent key es)
  where
    by : (b : Bool) → cond b (Some e.1) (lookup (nat_eq key) es) ≡ None → (lookup (nat_eq key) es ≡ None → list_any (nat_eq key) (entry_keys es) ≡ false)
        → (b || list_any (nat_eq key) (entry_keys es)) ≡ false
    by true h rest = cc
    by false h rest = rest h

-- rising positions
pub rising-push : (low : ℕ) (qs : List ℕ) (last q : ℕ) → IsRisingTo low qs last → last < q → IsRisingTo low (qs ++ q ∷ []) q
rising-push low [] last q h more = (omega (arith, h, more), omega arith)
rising-push low (x ∷ qs) last q h more = (h.0, rising-push x qs last q h.1 more)

pub rising-longer : (low : ℕ) (qs : List ℕ) (last q : ℕ) → IsRisingTo low qs last → last ≤ q → IsRisingTo low qs q
rising-longer low [] last q h more = omega (arith, h, more)
rising-longer low (x ∷ qs) last q h more = (h.0, rising-longer x qs last q h.1 more)

pub rising-few : (low : ℕ) (qs : List ℕ) (last : ℕ) → IsRisingTo low qs last → low + length qs ≤ last
rising-few low [] last h = omega (arith, h)
rising-few low (x ∷ qs) last h = omega (arith, h.0, rising-few x qs last h.1)

-- all are at or before the last
pub all_until : (p low : ℕ) (qs : List ℕ) (last : ℕ) → IsRisingTo low qs last → last ≤ p → filter (λ q. nat_le q p) qs ≡ qs
all_until p low [] last h within = refl
all_until p low (x ∷ qs) last h within =
    ap (λ b. cond b (x ∷ filter (λ q. nat_le q p) qs) (filter (λ q. nat_le q p) qs)) (le-leb x p (omega (arith, rising-few x qs last h.1, within)))
    ∙ ap (λ l. x ∷ l) (all_until p x qs last h.1 within)

-- none above a position is at or before it
pub none_until : (p low : ℕ) (qs : List ℕ) (last : ℕ) → IsRisingTo low qs last → p ≤ low → filter (λ q. nat_le q p) qs ≡ []
none_until p low [] last h past = refl
none_until p low (x ∷ qs) last h past =
    ap (λ b. cond b (x ∷ filter (λ q. nat_le q p) qs) (filter (λ q. nat_le q p) qs)) (lt-leb x p (omega (arith, h.0, past)))
    ∙ none_until p x qs last h.1 (omega (arith, h.0, past))

-- the first so many of rising positions are at or before p where so many are
pub first_until : (p low : ℕ) (qs : List ℕ) (last i : ℕ) → IsRisingTo low qs last → i < length (filter (λ q. nat_le q p) qs) → (first : ℕ) × (slice_get qs i ≡ Some first) × (first ≤ p)
first_until p low [] last i h within = absurd (omega (arith, within))
first_until p low (x ∷ qs) last i h within = by (nat_le x p) refl i within (first_until p x qs last)
  where
    by : (b : Bool) → nat_le x p ≡ b → (i : ℕ) → i < length (cond b (x ∷ filter (λ q. nat_le q p) qs) (filter (λ q. nat_le q p) qs))
        → ((i : ℕ) → IsRisingTo x qs last → i < length (filter (λ q. nat_le q p) qs) → (first : ℕ) × (slice_get qs i ≡ Some first) × (first ≤ p))
        → (first : ℕ) × (slice_get (x ∷ qs) i ≡ Some first) × (first ≤ p)
    by true e zero w rest = (x, refl, leb-true x p e)
    by true e (suc i) w rest = rest i h.1 (omega (arith, w))
    by false e i w rest =
        let none = none_until p x qs last h.1 (omega (arith, leb-false x p e)) in
        absurd (let few : i < 0 = subst (λ l. i < length l) none w in omega (arith, few))

module _ {V : Type 0} where
  pub own-append : (key : ℕ) (xs ys : List (Setting V)) → own key (xs ++ ys) ≡ own key xs ++ own key ys
  own-append key [] ys = refl
  own-append key (x ∷ xs) ys = by (nat_eq x.key key) (own-append key xs ys)
    where
      by : (b : Bool) → own key (xs ++ ys) ≡ own key xs ++ own key ys
          → (if b then (x.position, x.value) ∷ own key (xs ++ ys) else own key (xs ++ ys)) ≡ (if b then (x.position, x.value) ∷ own key xs else own key xs) ++ own key ys
      by true rest = ap (λ l. (x.position, x.value) ∷ l) rest
      by false rest = rest

  pub own-push : (sets : List (Setting V)) (s : Setting V) → own s.key (sets ++ s ∷ []) ≡ own s.key sets ++ (s.position, s.value) ∷ []
  own-push sets s =
      own-append s.key sets (s ∷ []) ∙ ap (λ b. own s.key sets ++ (if b then (s.position, s.value) ∷ [] else [])) (eq-eqb s.key s.key refl)

  pub own-other : (sets : List (Setting V)) (s : Setting V) (key : ℕ) → nat_eq s.key key ≡ false → own key (sets ++ s ∷ []) ≡ own key sets
  own-other sets s key e =
      own-append key sets (s ∷ []) ∙ ap (λ b. own key sets ++ (if b then (s.position, s.value) ∷ [] else [])) e ∙ append-nil (own key sets)

  keys_after-append : (keys : List ℕ) (xs ys : List (Setting V)) → keys_after keys (xs ++ ys) ≡ keys_after (keys_after keys xs) ys
  keys_after-append keys [] ys = refl
  keys_after-append keys (x ∷ xs) ys = keys_after-append (with_key keys x.key) xs ys

  pub keys_of-old : (sets : List (Setting V)) (s : Setting V) → list_any (nat_eq s.key) (keys_of sets) ≡ true → keys_of (sets ++ s ∷ []) ≡ keys_of sets
  keys_of-old sets s e =
      keys_after-append [] sets (s ∷ []) ∙ ap (λ b. if b then keys_of sets else keys_of sets ++ s.key ∷ []) e

  pub keys_of-new : (sets : List (Setting V)) (s : Setting V) → list_any (nat_eq s.key) (keys_of sets) ≡ false → keys_of (sets ++ s ∷ []) ≡ keys_of sets ++ s.key ∷ []
  keys_of-new sets s e =
      keys_after-append [] sets (s ∷ []) ∙ ap (λ b. if b then keys_of sets else keys_of sets ++ s.key ∷ []) e

  positions-push : (sets : List (Setting V)) (s : Setting V) → positions (sets ++ s ∷ []) ≡ positions sets ++ s.position ∷ []
  positions-push [] s = refl
  positions-push (x ∷ sets) s = ap (λ l. x.position ∷ l) (positions-push sets s)

  pub positions_rise : (sets : List (Setting V)) (s : Setting V) (last : ℕ) → IsRisingTo 0 (positions sets) last → last < s.position → IsRisingTo 0 (positions (sets ++ s ∷ [])) s.position
  positions_rise sets s last h more =
      subst (λ l. IsRisingTo 0 l s.position) (sym (positions-push sets s)) (rising-push 0 (positions sets) last s.position h more)

  rising-lower : (low high : ℕ) (vs : List (ℕ × V)) → low ≤ high → IsRising high vs → IsRising low vs
  rising-lower low high [] within h = tt
  rising-lower low high (v ∷ vs) within h = (omega (arith, within, h.0), h.1)

  pub own_rising : (key low : ℕ) (sets : List (Setting V)) (last : ℕ) → IsRisingTo low (positions sets) last → IsRising low (own key sets)
  own_rising key low [] last h = tt
  own_rising key low (s ∷ sets) last h = by (nat_eq s.key key) (own_rising key s.position sets last h.1)
    where
      by : (b : Bool) → IsRising s.position (own key sets) → IsRising low (if b then (s.position, s.value) ∷ own key sets else own key sets)
      by true rest = (h.0, rest)
      by false rest = rising-lower low s.position (own key sets) (omega (arith, h.0)) rest

  pub until_all : (p low : ℕ) (sets : List (Setting V)) (last : ℕ) → IsRisingTo low (positions sets) last → last ≤ p → until p sets ≡ sets
  until_all p low [] last h within = refl
  until_all p low (s ∷ sets) last h within =
      ap (λ b. cond b (s ∷ until p sets) (until p sets)) (le-leb s.position p (omega (arith, rising-few s.position (positions sets) last h.1, within)))
      ∙ ap (λ l. s ∷ l) (until_all p s.position sets last h.1 within)

  pub until_past : (p : ℕ) (sets : List (Setting V)) (s : Setting V) → p < s.position → until p (sets ++ s ∷ []) ≡ until p sets
  until_past p sets s past =
      filter-append (λ s. nat_le s.position p) sets (s ∷ [])
      ∙ ap (λ b. until p sets ++ cond b (s ∷ []) []) (lt-leb s.position p past) ∙ append-nil (until p sets)

  -- the keys among the settings after a floor, and the settings of a key after it
  pub own-after : (key floor : ℕ) (sets : List (Setting V)) → own key (settings_after floor sets) ≡ filter (λ v. nat_lt floor v.0) (own key sets)
  own-after key floor [] = refl
  own-after key floor (s ∷ sets) =
      left (nat_lt floor s.position) ∙ middle (nat_lt floor s.position) (nat_eq s.key key) (own-after key floor sets) ∙ sym (right (nat_eq s.key key))
    where
      left : (b : Bool) → own key (cond b (s ∷ settings_after floor sets) (settings_after floor sets))
          ≡ cond b (if nat_eq s.key key then (s.position, s.value) ∷ own key (settings_after floor sets) else own key (settings_after floor sets)) (own key (settings_after floor sets))
      left true = refl
      left false = refl

      right : (c : Bool) → filter (λ v. nat_lt floor v.0) (if c then (s.position, s.value) ∷ own key sets else own key sets)
          ≡ (if c then cond (nat_lt floor s.position) ((s.position, s.value) ∷ filter (λ v. nat_lt floor v.0) (own key sets)) (filter (λ v. nat_lt floor v.0) (own key sets)) else filter (λ v. nat_lt floor v.0) (own key sets))
      right true = refl
      right false = refl

      middle : (b c : Bool) → own key (settings_after floor sets) ≡ filter (λ v. nat_lt floor v.0) (own key sets)
          → cond b (if c then (s.position, s.value) ∷ own key (settings_after floor sets) else own key (settings_after floor sets)) (own key (settings_after floor sets))
          ≡ (if c then cond b ((s.position, s.value) ∷ filter (λ v. nat_lt floor v.0) (own key sets)) (filter (λ v. nat_lt floor v.0) (own key sets)) else filter (λ v. nat_lt floor v.0) (own key sets))
      middle true true rest = ap (λ l. (s.position, s.value) ∷ l) rest
      middle true false rest = rest
      middle false true rest = rest
      middle false false rest = rest
