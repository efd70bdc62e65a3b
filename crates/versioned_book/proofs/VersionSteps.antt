-- Versions in order: what was last set, and what a trim leaves.
use Rattle.versioned_book.proofs.Names.{◌≡◌, ℕ, zero, suc, ◌+◌, ◌*◌, ◌^◌, ◌<◌, ◌≤◌, Bool, true, false, nat_le, nat_lt, List, [], ◌∷◌, ◌++◌, length, filter, take, drop, slice_get, Option, None, Some, unwrap_or, refl, sym, ap, ◌∙◌, subst, add-one, pow-suc, if◌then◌else◌, cond, arith, leb-true, leb-false, le-leb, lt-leb, take_more, slice_get_within, get_or_from_slice_get, IsRising, newest_of, or_else, versions_from, trimmed_from, value_at}
use Rattle.std.proofs.Math.Nat.{mul-le-mul_left}

pub some_same : {X : Type 0} (x y : X) → Some x ≡ Some y → x ≡ y
some_same x y h = ap (λ o. unwrap_or o x) h

twice : (s : ℕ) → 2 ^ (s + 1) ≡ 2 ^ s * 2
twice s = ap (λ k. 2 ^ k) (add-one s) ∙ pow-suc 2 s

-- one more step, where what is left is halved
pub halved : (s w v n : ℕ) → 2 ^ s * 2 * w ≤ n → 2 * v ≤ w → 2 ^ (s + 1) * 2 * v ≤ n
halved s w v n h half =
    let e : 2 ^ (s + 1) ≡ 2 ^ s * 2 = twice s in
    subst (λ x. x * 2 * v ≤ n) (sym e) (omega (arith, h, mul-le-mul_left (2 ^ s * 2) half))

pub doubled : (s w n : ℕ) → 2 ^ s * 2 * w ≤ n → 1 ≤ w → 2 ^ (s + 1) ≤ n
doubled s w n h some =
    let e : 2 ^ (s + 1) ≡ 2 ^ s * 2 = twice s in
    subst (λ x. x ≤ n) (sym e) (omega (arith, h, mul-le-mul_left (2 ^ s * 2) some))

module _ {V : Type 0} where
  or_else-none : (o : Option V) → or_else o None ≡ o
  or_else-none None = refl
  or_else-none (Some v) = refl

  or_else-again : (a b c : Option V) → or_else (or_else a b) c ≡ or_else a (or_else b c)
  or_else-again None b c = refl
  or_else-again (Some v) b c = refl

  or_else-some : (a b : Option V) (v : V) → or_else (or_else a (Some v)) b ≡ or_else a (Some v)
  or_else-some None b v = refl
  or_else-some (Some w) b v = refl

  pub value_at-append : (p : ℕ) (xs ys : List (ℕ × V)) → value_at p (xs ++ ys) ≡ or_else (value_at p ys) (value_at p xs)
  value_at-append p [] ys = sym (or_else-none (value_at p ys))
  value_at-append p (x ∷ xs) ys =
      ap (λ o. or_else o (if nat_le x.0 p then Some x.1 else None)) (value_at-append p xs ys)
      ∙ or_else-again (value_at p ys) (value_at p xs) (if nat_le x.0 p then Some x.1 else None)

  pub value_at-within : (p : ℕ) (xs : List (ℕ × V)) (q : ℕ) (v : V) → q ≤ p → value_at p (xs ++ (q, v) ∷ []) ≡ Some v
  value_at-within p xs q v h =
      value_at-append p xs ((q, v) ∷ []) ∙ ap (λ b. or_else (if b then Some v else None) (value_at p xs)) (le-leb q p h)

  pub value_at-past : (p : ℕ) (xs : List (ℕ × V)) (q : ℕ) (v : V) → p < q → value_at p (xs ++ (q, v) ∷ []) ≡ value_at p xs
  value_at-past p xs q v h =
      value_at-append p xs ((q, v) ∷ []) ∙ ap (λ b. or_else (if b then Some v else None) (value_at p xs)) (lt-leb q p h)

  above : (p low : ℕ) (vs : List (ℕ × V)) → p ≤ low → IsRising low vs → value_at p vs ≡ None
  above p low [] within h = refl
  above p low (v ∷ vs) within h =
      ap (λ o. or_else o (if nat_le v.0 p then Some v.1 else None)) (above p v.0 vs (omega (arith, within, h.0)) h.1)
      ∙ ap (λ b. if b then Some v.1 else None) (lt-leb v.0 p (omega (arith, within, h.0)))

  -- nothing from a version on counts at a position before it
  pub value_at-take : (p i low : ℕ) (vs : List (ℕ × V)) (e : ℕ × V) → slice_get vs i ≡ Some e → p < e.0 → IsRising low vs → value_at p (take i vs) ≡ value_at p vs
  value_at-take p zero low [] e at past h = refl
  value_at-take p (suc i) low [] e at past h = refl
  value_at-take p zero low (v ∷ vs) e at past h =
      sym (above p p (v ∷ vs) (omega arith) (subst (λ x. p < x.0) (sym (some_same v e at)) past, h.1))
  value_at-take p (suc i) low (v ∷ vs) e at past h =
      ap (λ o. or_else o (if nat_le v.0 p then Some v.1 else None)) (value_at-take p i v.0 vs e at past h.1)

  -- the version at the end of a prefix is the value at any position from its own on
  pub value_at-more : (p i : ℕ) (vs : List (ℕ × V)) (e : ℕ × V) → slice_get vs i ≡ Some e → e.0 ≤ p → value_at p (take (i + 1) vs) ≡ Some e.1
  value_at-more p i vs e at within =
      ap (value_at p) (take_more vs i e (slice_get_within vs i e at) ∙ ap (λ x. take i vs ++ x ∷ []) (get_or_from_slice_get vs i e e at))
      ∙ value_at-within p (take i vs) e.0 e.1 within

  pub newest_of-push : (xs : List (ℕ × V)) (v : ℕ × V) → newest_of (xs ++ v ∷ []) ≡ Some v.1
  newest_of-push [] v = refl
  newest_of-push (x ∷ xs) v = ap (λ o. or_else o (Some x.1)) (newest_of-push xs v)

  -- a trim, version by version
  pub trim_step : (floor i : ℕ) (vs : List (ℕ × V)) (e : ℕ × V) → slice_get vs (suc i) ≡ Some e → e.0 ≤ floor → versions_from floor (drop i vs) ≡ versions_from floor (drop (suc i) vs)
  trim_step floor zero [] e at h = refl
  trim_step floor (suc i) [] e at h = refl
  trim_step floor zero (v ∷ []) e at h = cc
  trim_step floor zero (v ∷ w ∷ vs) e at h =
      ap (λ b. if b then trimmed_from floor w vs else v ∷ w ∷ vs) (le-leb w.0 floor (subst (λ x. x.0 ≤ floor) (sym (some_same w e at)) h))
  trim_step floor (suc i) (v ∷ vs) e at h = trim_step floor i vs e at h

  pub trim_stop : (floor i : ℕ) (vs : List (ℕ × V)) (e : ℕ × V) → slice_get vs (suc i) ≡ Some e → floor < e.0 → versions_from floor (drop i vs) ≡ drop i vs
  trim_stop floor zero [] e at h = refl
  trim_stop floor (suc i) [] e at h = refl
  trim_stop floor zero (v ∷ []) e at h = refl
  trim_stop floor zero (v ∷ w ∷ vs) e at h =
      ap (λ b. if b then trimmed_from floor w vs else v ∷ w ∷ vs) (lt-leb w.0 floor (subst (λ x. floor < x.0) (sym (some_same w e at)) h))
  trim_stop floor (suc i) (v ∷ vs) e at h = trim_stop floor i vs e at h

  pub trim_end : (floor : ℕ) (vs : List (ℕ × V)) (v : ℕ × V) → versions_from floor (drop (length vs) (vs ++ v ∷ [])) ≡ drop (length vs) (vs ++ v ∷ [])
  trim_end floor [] v = refl
  trim_end floor (x ∷ vs) v = trim_end floor vs v

  module _ (floor : ℕ) where
    trimmed_from-push : (x : ℕ × V) (vs : List (ℕ × V)) (v : ℕ × V) → floor < v.0 → trimmed_from floor x (vs ++ v ∷ []) ≡ trimmed_from floor x vs ++ v ∷ []
    trimmed_from-push x [] v h = ap (λ b. if b then v ∷ [] else x ∷ v ∷ []) (lt-leb v.0 floor h)
    trimmed_from-push x (w ∷ vs) v h = by (nat_le w.0 floor) (trimmed_from-push w vs v h)
      where
        by : (b : Bool) → trimmed_from floor w (vs ++ v ∷ []) ≡ trimmed_from floor w vs ++ v ∷ []
            → (if b then trimmed_from floor w (vs ++ v ∷ []) else x ∷ w ∷ (vs ++ v ∷ [])) ≡ (if b then trimmed_from floor w vs else x ∷ w ∷ vs) ++ v ∷ []
        by true rest = rest
        by false rest = refl

    -- a version above the floor stays after what a trim leaves
    pub trimmed-push : (vs : List (ℕ × V)) (v : ℕ × V) → floor < v.0 → versions_from floor (vs ++ v ∷ []) ≡ versions_from floor vs ++ v ∷ []
    trimmed-push [] v h = refl
    trimmed-push (x ∷ vs) v h = trimmed_from-push x vs v h

    value_at-trimmed_from : (p : ℕ) (x : ℕ × V) (vs : List (ℕ × V)) → floor ≤ p → value_at p (trimmed_from floor x vs) ≡ value_at p (x ∷ vs)
    value_at-trimmed_from p x [] h = refl
    value_at-trimmed_from p x (w ∷ vs) h = by (nat_le w.0 floor) refl (value_at-trimmed_from p w vs h)
      where
        by : (b : Bool) → nat_le w.0 floor ≡ b → value_at p (trimmed_from floor w vs) ≡ value_at p (w ∷ vs)
            → value_at p (if b then trimmed_from floor w vs else x ∷ w ∷ vs) ≡ value_at p (x ∷ w ∷ vs)
        by true e rest =
            let here : nat_le w.0 p ≡ true = le-leb w.0 p (omega (arith, leb-true w.0 floor e, h)) in
            let one : value_at p (w ∷ vs) ≡ or_else (value_at p vs) (Some w.1) = ap (λ b. or_else (value_at p vs) (if b then Some w.1 else None)) here in
            rest ∙ one ∙ sym (ap (λ o. or_else o (if nat_le x.0 p then Some x.1 else None)) one ∙ or_else-some (value_at p vs) (if nat_le x.0 p then Some x.1 else None) w.1)
        by false e rest = refl

    -- no position from the floor on sees a trim
    pub value_at-trimmed : (p : ℕ) (vs : List (ℕ × V)) → floor ≤ p → value_at p (versions_from floor vs) ≡ value_at p vs
    value_at-trimmed p [] h = refl
    value_at-trimmed p (x ∷ vs) h = value_at-trimmed_from p x vs h

    newest_of-trimmed_from : (x : ℕ × V) (vs : List (ℕ × V)) → newest_of (trimmed_from floor x vs) ≡ newest_of (x ∷ vs)
    newest_of-trimmed_from x [] = refl
    newest_of-trimmed_from x (w ∷ vs) = by (nat_le w.0 floor) (newest_of-trimmed_from w vs)
      where
        by : (b : Bool) → newest_of (trimmed_from floor w vs) ≡ newest_of (w ∷ vs) → newest_of (if b then trimmed_from floor w vs else x ∷ w ∷ vs) ≡ newest_of (x ∷ w ∷ vs)
        by true rest = rest ∙ sym (or_else-some (newest_of vs) (Some x.1) w.1)
        by false rest = refl

    pub newest_of-trimmed : (vs : List (ℕ × V)) → newest_of (versions_from floor vs) ≡ newest_of vs
    newest_of-trimmed [] = refl
    newest_of-trimmed (x ∷ vs) = newest_of-trimmed_from x vs

    trim_again_from : (old : ℕ) (x : ℕ × V) (vs : List (ℕ × V)) → old ≤ floor → versions_from floor (trimmed_from old x vs) ≡ trimmed_from floor x vs
    trim_again_from old x [] h = refl
    trim_again_from old x (w ∷ vs) h = by (nat_le w.0 old) refl (trim_again_from old w vs h)
      where
        by : (b : Bool) → nat_le w.0 old ≡ b → versions_from floor (trimmed_from old w vs) ≡ trimmed_from floor w vs
            → versions_from floor (if b then trimmed_from old w vs else x ∷ w ∷ vs) ≡ trimmed_from floor x (w ∷ vs)
        by true e rest = rest ∙ sym (ap (λ b. if b then trimmed_from floor w vs else x ∷ w ∷ vs) (le-leb w.0 floor (omega (arith, leb-true w.0 old e, h))))
        by false e rest = refl

    -- a trim at a later floor makes an earlier one as if it had never been
    pub trim_again : (old : ℕ) (vs : List (ℕ × V)) → old ≤ floor → versions_from floor (versions_from old vs) ≡ versions_from floor vs
    trim_again old [] h = refl
    trim_again old (x ∷ vs) h = trim_again_from old x vs h

    rising-trimmed_from : (low : ℕ) (x : ℕ × V) (vs : List (ℕ × V)) → IsRising low (x ∷ vs) → IsRising low (trimmed_from floor x vs)
    rising-trimmed_from low x [] h = h
    rising-trimmed_from low x (w ∷ vs) h = by (nat_le w.0 floor) (rising-trimmed_from low w vs (omega (arith, h.0, h.1.0), h.1.1))
      where
        by : (b : Bool) → IsRising low (trimmed_from floor w vs) → IsRising low (if b then trimmed_from floor w vs else x ∷ w ∷ vs)
        by true rest = rest
        by false rest = h

    pub rising-trimmed : (low : ℕ) (vs : List (ℕ × V)) → IsRising low vs → IsRising low (versions_from floor vs)
    rising-trimmed low [] h = h
    rising-trimmed low (x ∷ vs) h = rising-trimmed_from low x vs h

    -- above the floor a filter by it drops nothing
    all_after : (low : ℕ) (vs : List (ℕ × V)) → floor ≤ low → IsRising low vs → length (filter (λ v. nat_lt floor v.0) vs) ≡ length vs
    all_after low [] h rising = refl
    all_after low (v ∷ vs) h rising = by (nat_lt floor v.0) (le-leb (suc floor) v.0 (omega (arith, h, rising.0))) (all_after v.0 vs (omega (arith, h, rising.0)) rising.1)
      where
        by : (b : Bool) → b ≡ true → length (filter (λ v. nat_lt floor v.0) vs) ≡ length vs
            → length (cond b (v ∷ filter (λ v. nat_lt floor v.0) vs) (filter (λ v. nat_lt floor v.0) vs)) ≡ length (v ∷ vs)
        by true e rest = ap suc rest
        by false e rest = cc

    few_from : (low : ℕ) (x : ℕ × V) (vs : List (ℕ × V)) → IsRising low (x ∷ vs) → length (trimmed_from floor x vs) ≤ length (filter (λ v. nat_lt floor v.0) vs) + 1
    few_from low x [] h = omega arith
    few_from low x (w ∷ vs) h =
        by (nat_le w.0 floor) (nat_lt floor w.0) refl refl (few_from x.0 w vs h.1) (all_after w.0 vs)
      where
        by : (b c : Bool) → nat_le w.0 floor ≡ b → nat_lt floor w.0 ≡ c → length (trimmed_from floor w vs) ≤ length (filter (λ v. nat_lt floor v.0) vs) + 1
            → (floor ≤ w.0 → IsRising w.0 vs → length (filter (λ v. nat_lt floor v.0) vs) ≡ length vs)
            → length (if b then trimmed_from floor w vs else x ∷ w ∷ vs) ≤ length (cond c (w ∷ filter (λ v. nat_lt floor v.0) vs) (filter (λ v. nat_lt floor v.0) vs)) + 1
        by true true e f rest all = omega (arith, rest)
        by true false e f rest all = rest
        by false true e f rest all = omega (arith, all (omega (arith, leb-false w.0 floor e)) h.1.1)
        by false false e f rest all = absurd (omega (arith, leb-false w.0 floor e, leb-false (suc floor) w.0 f))

    -- a trim leaves at most one more version than those after the floor
    pub few_trimmed : (low : ℕ) (vs : List (ℕ × V)) → IsRising low vs → length (versions_from floor vs) ≤ length (filter (λ v. nat_lt floor v.0) vs) + 1
    few_trimmed low [] h = omega arith
    few_trimmed low (x ∷ vs) h = by (nat_lt floor x.0) (few_from low x vs h)
      where
        by : (b : Bool) → length (trimmed_from floor x vs) ≤ length (filter (λ v. nat_lt floor v.0) vs) + 1
            → length (trimmed_from floor x vs) ≤ length (cond b (x ∷ filter (λ v. nat_lt floor v.0) vs) (filter (λ v. nat_lt floor v.0) vs)) + 1
        by true rest = omega (arith, rest)
        by false rest = rest

  -- the same, as the code counts
  pub trim_step_at : (floor i : ℕ) (vs : List (ℕ × V)) (e : ℕ × V) → slice_get vs (i + 1) ≡ Some e → e.0 ≤ floor → versions_from floor (drop i vs) ≡ versions_from floor (drop (i + 1) vs)
  trim_step_at floor i vs e at h =
      trim_step floor i vs e (ap (slice_get vs) (sym (add-one i)) ∙ at) h ∙ sym (ap (λ k. versions_from floor (drop k vs)) (add-one i))

  pub trim_stop_at : (floor i : ℕ) (vs : List (ℕ × V)) (e : ℕ × V) → slice_get vs (i + 1) ≡ Some e → floor < e.0 → versions_from floor (drop i vs) ≡ drop i vs
  trim_stop_at floor i vs e at h = trim_stop floor i vs e (ap (slice_get vs) (sym (add-one i)) ∙ at) h
