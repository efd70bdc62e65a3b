-- Keys that are apart: each stands at one place.
use Rattle.versioned_book.proofs.Names.{◌≡◌, ℕ, zero, suc, slice_get, Bool, true, false, nat_eq, List, [], ◌∷◌, ◌++◌, Some, refl, sym, ap, ◌∙◌, subst, cond, if◌then◌else◌, ◌||◌, eq-eqb, arith, eqb-true, list_any, lookup, entry_keys, AreApart, Setting, keys_after, with_key}
use Rattle.versioned_book.proofs.VersionSteps.{some_same}
use Rattle.versioned_book.proofs.SettingSteps.{any_found}

any-push : (x k : ℕ) (ks : List ℕ) → list_any (nat_eq x) ks ≡ false → nat_eq x k ≡ false → list_any (nat_eq x) (ks ++ k ∷ []) ≡ false
any-push x k [] h e = ap (λ b. b || false) e
any-push x k (y ∷ ks) h e = by (nat_eq x y) h (any-push x k ks)
  where
    by : (b : Bool) → (b || list_any (nat_eq x) ks) ≡ false → (list_any (nat_eq x) ks ≡ false → nat_eq x k ≡ false → list_any (nat_eq x) (ks ++ k ∷ []) ≡ false)
        → (b || list_any (nat_eq x) (ks ++ k ∷ [])) ≡ false
    by true g rest = cc
    by false g rest = rest g e

-- if a key isn't among others, it isn't the first of them, nor among the rest
not_first : (k x : ℕ) (ks : List ℕ) → (nat_eq k x || list_any (nat_eq k) ks) ≡ false → (nat_eq x k ≡ false) × (list_any (nat_eq k) ks ≡ false)
not_first k x ks h = by (nat_eq k x) (nat_eq x k) refl refl h
  where
    by : (b c : Bool) → nat_eq k x ≡ b → nat_eq x k ≡ c → (b || list_any (nat_eq k) ks) ≡ false → (c ≡ false) × (list_any (nat_eq k) ks ≡ false)
    by true c e f g = cc
    by false false e f g = (refl, g)
    by false true e f g =
        let yes : nat_eq k x ≡ true = eq-eqb k x (sym (eqb-true x k f)) in
        let clash : true ≡ false = sym yes ∙ e in cc

apart-push : (k : ℕ) (ks : List ℕ) → AreApart ks → list_any (nat_eq k) ks ≡ false → AreApart (ks ++ k ∷ [])
apart-push k [] h e = (refl, tt)
apart-push k (x ∷ ks) h e =
    let n = not_first k x ks e in
    (any-push x k ks h.0 n.0, apart-push k ks h.1 n.1)

apart-with : (k : ℕ) (ks : List ℕ) → AreApart ks → AreApart (with_key ks k)
apart-with k ks h = by (list_any (nat_eq k) ks) refl
  where
    by : (b : Bool) → list_any (nat_eq k) ks ≡ b → AreApart (if b then ks else ks ++ k ∷ [])
    by true e = h
    by false e = apart-push k ks h e

pub any-place : (k : ℕ) (ks : List ℕ) (i : ℕ) → slice_get ks i ≡ Some k → list_any (nat_eq k) ks ≡ true
any-place k [] i h = cc
any-place k (x ∷ ks) zero h = ap (λ b. b || list_any (nat_eq k) ks) (eq-eqb k x (sym (some_same x k h)))
any-place k (x ∷ ks) (suc i) h = by (nat_eq k x) (any-place k ks i h)
  where
    by : (b : Bool) → list_any (nat_eq k) ks ≡ true → (b || list_any (nat_eq k) ks) ≡ true
    by true rest = refl
    by false rest = rest

-- keys that are apart stand at one place each
pub same_place : (ks : List ℕ) (i j k : ℕ) → AreApart ks → slice_get ks i ≡ Some k → slice_get ks j ≡ Some k → i ≡ j
same_place [] i j k apart at other = cc
same_place (x ∷ ks) zero zero k apart at other = refl
same_place (x ∷ ks) zero (suc j) k apart at other =
    let clash : list_any (nat_eq x) ks ≡ true = any-place x ks j (other ∙ ap Some (sym (some_same x k at))) in
    let never : true ≡ false = sym clash ∙ apart.0 in cc
same_place (x ∷ ks) (suc i) zero k apart at other =
    let clash : list_any (nat_eq x) ks ≡ true = any-place x ks i (at ∙ ap Some (sym (some_same x k other))) in
    let never : true ≡ false = sym clash ∙ apart.0 in cc
same_place (x ∷ ks) (suc i) (suc j) k apart at other = ap suc (same_place ks i j k apart.1 at other)

module _ {V : Type 0} where
  pub apart-after : (ks : List ℕ) (sets : List (Setting V)) → AreApart ks → AreApart (keys_after ks sets)
  apart-after ks [] h = h
  apart-after ks (s ∷ sets) h = apart-after (with_key ks s.key) sets (apart-with s.key ks h)

module _ {X : Type 0} where
  -- a look-up passes an entry whose key isn't among those after it
  lookup_past : (e : ℕ × X) (es : List (ℕ × X)) → list_any (nat_eq e.0) (entry_keys es) ≡ false → (key : ℕ) (c : X) → lookup (nat_eq key) es ≡ Some c → lookup (nat_eq key) (e ∷ es) ≡ Some c
  lookup_past e es apart key c found = by (nat_eq key e.0) refl
    where
      by : (b : Bool) → nat_eq key e.0 ≡ b → cond b (Some e.1) (lookup (nat_eq key) es) ≡ Some c
      by true is =
          let there : list_any (nat_eq e.0) (entry_keys es) ≡ true = subst (λ k. list_any (nat_eq k) (entry_keys es) ≡ true) (eqb-true key e.0 is) (any_found key es c found) in
          let clash : true ≡ false = sym there ∙ apart in cc
      by false isnt = found

  pub lookup_at : (es : List (ℕ × X)) (i k : ℕ) (c : X) → AreApart (entry_keys es) → slice_get es i ≡ Some (k, c) → lookup (nat_eq k) es ≡ Some c
  lookup_at [] i k c apart h = cc
  lookup_at (e ∷ es) zero k c apart h =
      let same : e ≡ (k, c) = some_same e (k, c) h in
      let here : nat_eq k e.0 ≡ true = eq-eqb k e.0 (sym (ap (λ x. x.0) same)) in
      ap (λ b. cond b (Some e.1) (lookup (nat_eq k) es)) here ∙ ap (λ x. Some x.1) same
  lookup_at (e ∷ es) (suc i) k c apart h = lookup_past e es apart.0 k c (lookup_at es i k c apart.1 h)

  -- the key of the entry at a place
  pub key_there : (es : List (ℕ × X)) (i key : ℕ) (x : X) → slice_get es i ≡ Some (key, x) → slice_get (entry_keys es) i ≡ Some key
  key_there [] i key x h = cc
  key_there (e ∷ es) zero key x h = ap (λ y. Some y.0) (some_same e (key, x) h)
  key_there (e ∷ es) (suc i) key x h = key_there es i key x h

  -- where a key is that is among others
  pub past_at : (key : ℕ) (es : List (ℕ × X)) → list_any (nat_eq key) (entry_keys es) ≡ true → (n : ℕ) × (x : X) × (slice_get es n ≡ Some (key, x))
  past_at key [] h = cc
  past_at key (e ∷ es) h = by (nat_eq key e.0) refl h (past_at key es)
    where
      by : (b : Bool) → nat_eq key e.0 ≡ b → (b || list_any (nat_eq key) (entry_keys es)) ≡ true
          → (list_any (nat_eq key) (entry_keys es) ≡ true → (n : ℕ) × (x : X) × (slice_get es n ≡ Some (key, x)))
          → (n : ℕ) × (x : X) × (slice_get (e ∷ es) n ≡ Some (key, x))
      by true is g rest = (0, e.1, ap (λ k. Some (k, e.1)) (sym (eqb-true key e.0 is)))
      by false isnt g rest = let r = rest g in (suc r.0, r.1, r.2)

  -- keys are apart where two entries with one key are one
  pub apart_from : (es : List (ℕ × X)) → ((n m key : ℕ) (x y : X) → slice_get es n ≡ Some (key, x) → slice_get es m ≡ Some (key, y) → n ≡ m) → AreApart (entry_keys es)
  apart_from [] h = tt
  apart_from (e ∷ es) h = (
    alone (list_any (nat_eq e.0) (entry_keys es)) refl,
    apart_from es (λ n m key x y at other. omega (arith, h (suc n) (suc m) key x y at other)),
  )
    where
      alone : (b : Bool) → list_any (nat_eq e.0) (entry_keys es) ≡ b → b ≡ false
      alone false is = refl
      alone true is = let p = past_at e.0 es is in absurd (omega (arith, h 0 (suc p.0) e.0 e.1 p.1 refl p.2))
