-- The first setting of a key.
use Rattle.versioned_book.proofs.Names.{◌≡◌, ℕ, ◌+◌, ◌<◌, ◌≤◌, Bool, true, false, nat_eq, nat_le, List, [], ◌∷◌, ◌++◌, length, filter, slice_get, None, Some, refl, sym, ap, ◌∙◌, subst, cond, ◌⊎◌, inl, inr, append-nil, arith, lt-leb, eqb-true, cases_lt, length_push, map-append, slice_get_within, list_any, entry_keys, get, Updates, IsRisingTo, first_position, versions_from, AreWhereTold, newest, older_of, olders_in, places_in, older_total, Setting, keys_of, own, positions, until, IsBookOf, Chain, VersionedBook}
use Rattle.std.proofs.lemmas.List.Elements.{filter-append}
use Rattle.versioned_book.proofs.VersionSteps.{some_same}
use Rattle.versioned_book.proofs.SettingSteps.{all_until, any_absent, keys_of-new, own-other, own-push, positions_rise, rising-push, until_all, until_past}
use Rattle.versioned_book.proofs.BookSteps.{as_many}
use Rattle.versioned_book.proofs.PastSteps.{get_push, no_past, older_none, same_keys, told_more}

module _ {V : Type 0} (book new : VersionedBook V) (sets : List (Setting V)) (s : Setting V) (chain : Chain V)
    (absent : get nat_eq book.chains s.key ≡ None) (updates : Updates nat_eq book.chains new.chains s.key (Some chain))
    (entries : new.chains.entries ≡ book.chains.entries ++ (s.key, chain) ∷ []) (one : newest chain ≡ (s.position, s.value))
    (firsts : new.firsts.items ≡ book.firsts.items ++ s.position ∷ []) (floor : new.floor ≡ book.floor) (last : new.last ≡ s.position) (kept : new.kept ≡ book.kept + 1)
    (rises : book.last < s.position) (pasts : new.pasts ≡ book.pasts) (h : IsBookOf book sets) where
  new_keys : keys_of (sets ++ s ∷ []) ≡ keys_of sets ++ s.key ∷ []
  new_keys = keys_of-new sets s (subst (λ ks. list_any (nat_eq s.key) ks ≡ false) h.order (any_absent s.key book.chains.entries absent))

  own_one : own s.key (sets ++ s ∷ []) ≡ (s.position, s.value) ∷ []
  own_one = own-push sets s ∙ ap (λ l. l ++ (s.position, s.value) ∷ []) (h.absent s.key absent)

  none_older : older_of s.key (olders_in book.pasts) ≡ []
  none_older =
      older_none s.key (olders_in book.pasts) (subst (λ ks. list_any (nat_eq s.key) ks ≡ false) (same_keys book.pasts.list.items)
      (no_past book.chains.entries (places_in book.pasts) s.key h.told absent))

  kept_first : (key : ℕ) (c : Chain V) → get nat_eq new.chains key ≡ Some c → older_of key (olders_in new.pasts) ++ newest c ∷ [] ≡ versions_from new.floor (own key (sets ++ s ∷ []))
  kept_first key c e = ap (λ ps. older_of key (olders_in ps) ++ newest c ∷ []) pasts ∙ by (nat_eq s.key key) refl
    where
      by : (b : Bool) → nat_eq s.key key ≡ b → older_of key (olders_in book.pasts) ++ newest c ∷ [] ≡ versions_from new.floor (own key (sets ++ s ∷ []))
      by true is =
          let this : s.key ≡ key = eqb-true s.key key is in
          let got : chain ≡ c = some_same chain c (sym updates.1 ∙ ap (get nat_eq new.chains) this ∙ e) in
          subst (λ k. older_of k (olders_in book.pasts) ++ newest c ∷ [] ≡ versions_from new.floor (own k (sets ++ s ∷ []))) this
          (ap (λ l. l ++ newest c ∷ []) none_older ∙ ap (λ v. v ∷ []) (ap newest (sym got) ∙ one) ∙ sym (ap (versions_from new.floor) own_one))
      by false isnt =
          h.kept key c (sym (updates.2 key isnt) ∙ e) ∙ ap (λ f. versions_from f (own key sets)) (sym floor) ∙ ap (versions_from new.floor) (sym (own-other sets s key isnt))

  absent_first : (key : ℕ) → get nat_eq new.chains key ≡ None → own key (sets ++ s ∷ []) ≡ []
  absent_first key e = by (nat_eq s.key key) refl
    where
      by : (b : Bool) → nat_eq s.key key ≡ b → own key (sets ++ s ∷ []) ≡ []
      by true is =
          let none : Some chain ≡ None = sym updates.1 ∙ ap (get nat_eq new.chains) (eqb-true s.key key is) ∙ e in cc
      by false isnt = own-other sets s key isnt ∙ h.absent key (sym (updates.2 key isnt) ∙ e)

  begun_old : (key first : ℕ) → first_position (own key sets) ≡ Some first → first_position (own key (sets ++ s ∷ [])) ≡ Some first
  begun_old key first b = by (nat_eq s.key key) refl
    where
      by : (t : Bool) → nat_eq s.key key ≡ t → first_position (own key (sets ++ s ∷ [])) ≡ Some first
      by true this =
          let none : own key sets ≡ [] = subst (λ k. own k sets ≡ []) (eqb-true s.key key this) (h.absent s.key absent) in
          let clash : None ≡ Some first = sym (ap first_position none) ∙ b in cc
      by false isnt = ap first_position (own-other sets s key isnt) ∙ b

  begun_first : (i key first : ℕ) → slice_get new.firsts.items i ≡ Some first → slice_get (keys_of (sets ++ s ∷ [])) i ≡ Some key
      → first_position (own key (sets ++ s ∷ [])) ≡ Some first
  begun_first i key first at is =
      by (get_push book.firsts.items s.position first i (sym (ap (λ l. slice_get l i) firsts) ∙ at)) (get_push (keys_of sets) s.key key i (sym (ap (λ l. slice_get l i) new_keys) ∙ is))
    where
      by : (slice_get book.firsts.items i ≡ Some first) ⊎ ((i ≡ length book.firsts.items) × (first ≡ s.position)) → (slice_get (keys_of sets) i ≡ Some key) ⊎ ((i ≡ length (keys_of sets)) × (key ≡ s.key))
          → first_position (own key (sets ++ s ∷ [])) ≡ Some first
      by (inl a) (inl b) = begun_old key first (h.begun i key first a b)
      by (inl a) (inr b) = absurd (omega (arith, slice_get_within book.firsts.items i first a, b.0, as_many book sets h))
      by (inr a) (inl b) = absurd (omega (arith, slice_get_within (keys_of sets) i key b, a.0, as_many book sets h))
      by (inr a) (inr b) = ap (λ k. first_position (own k (sets ++ s ∷ []))) b.1 ∙ ap first_position own_one ∙ ap Some (sym a.1)

  counts_first : (p : ℕ) → length (keys_of (until p (sets ++ s ∷ []))) ≡ length (filter (λ first. nat_le first p) new.firsts.items)
  counts_first p = by (cases_lt p s.position) ∙ sym (ap (λ l. length (filter (λ first. nat_le first p) l)) firsts)
    where
      by : (p < s.position) ⊎ (s.position ≤ p) → length (keys_of (until p (sets ++ s ∷ []))) ≡ length (filter (λ first. nat_le first p) (book.firsts.items ++ s.position ∷ []))
      by (inl past) =
          ap (λ l. length (keys_of l)) (until_past p sets s past) ∙ h.counts p
          ∙ sym (ap length (filter-append (λ first. nat_le first p) book.firsts.items (s.position ∷ [])
          ∙ ap (λ b. filter (λ first. nat_le first p) book.firsts.items ++ cond b (s.position ∷ []) []) (lt-leb s.position p past)
          ∙ append-nil (filter (λ first. nat_le first p) book.firsts.items)))
      by (inr within) =
          ap (λ l. length (keys_of l)) (until_all p 0 (sets ++ s ∷ []) s.position (positions_rise sets s book.last h.rising rises) within)
          ∙ ap length new_keys ∙ length_push (keys_of sets) s.key ∙ ap (λ n. n + 1) (as_many book sets h) ∙ sym (length_push book.firsts.items s.position)
          ∙ sym (ap length (all_until p 0 (book.firsts.items ++ s.position ∷ []) s.position (rising-push 0 book.firsts.items book.last s.position h.firsts rises) within))

  pub set_first : IsBookOf new (sets ++ s ∷ [])
  set_first = record {
    order = ap entry_keys entries ∙ map-append (λ (e : ℕ × Chain V). e.0) book.chains.entries ((s.key, chain) ∷ []) ∙ ap (λ l. l ++ s.key ∷ []) h.order ∙ sym new_keys;
    kept = kept_first;
    absent = absent_first;
    rising = subst (λ l. IsRisingTo 0 (positions (sets ++ s ∷ [])) l) (sym last) (positions_rise sets s book.last h.rising rises);
    floor = omega (arith, floor, last, h.floor, rises);
    firsts = subst (λ l. IsRisingTo 0 l new.last) (sym firsts) (subst (λ l. IsRisingTo 0 (book.firsts.items ++ s.position ∷ []) l) (sym last) (rising-push 0 book.firsts.items book.last s.position h.firsts rises));
    begun = begun_first;
    counts = counts_first;
    count = omega (arith, kept, h.count, ap length entries, length_push book.chains.entries (s.key, chain), ap (λ ps. older_total (olders_in ps)) pasts);
    bound = omega (arith, kept, last, h.bound, rises);
    told =
        subst (λ ps. AreWhereTold new.chains.entries (places_in ps)) (sym pasts)
        (subst (λ es. AreWhereTold es (places_in book.pasts)) (sym entries) (told_more book.chains.entries ((s.key, chain) ∷ []) (places_in book.pasts) h.told));
    few = omega (arith, ap (λ ps. length (places_in ps)) pasts, h.few, last, rises);
  }
