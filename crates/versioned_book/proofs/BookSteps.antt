-- What a call does to what a book stands for.
use Rattle.versioned_book.proofs.Names.{◌≡◌, ℕ, ◌+◌, ◌<◌, ◌≤◌, Bool, true, false, nat_eq, nat_le, List, [], ◌∷◌, ◌++◌, length, filter, slice_get, Option, None, Some, refl, sym, ap, ◌∙◌, subst, ◌⊎◌, inl, inr, arith, eqb-true, cases_lt, length-map, list_any, get, keys, Updates, IsRisingTo, first_position, versions_from, AreWhereTold, IsDeeper, newest, older_of, olders_in, places_in, Setting, keys_of, own, positions, until, IsBookOf, kept_of, kept_versions, versions_in, Chain, VersionedBook}
use Rattle.versioned_book.proofs.VersionSteps.{some_same, trimmed-push}
use Rattle.versioned_book.proofs.SettingSteps.{all_until, any_found, keys_of-old, own-other, own-push, positions_rise, rising-longer, until_all, until_past}

module _ {V : Type 0} where
  first_position-push : (vs : List (ℕ × V)) (v : ℕ × V) (first : ℕ) → first_position vs ≡ Some first → first_position (vs ++ v ∷ []) ≡ Some first
  first_position-push [] v first h = cc
  first_position-push (w ∷ vs) v first h = h

  -- as many first positions as keys
  pub as_many : (book : VersionedBook V) (sets : List (Setting V)) → IsBookOf book sets → length (keys_of sets) ≡ length book.firsts.items
  as_many book sets h =
      sym (ap (λ l. length (keys_of l)) (until_all book.last 0 sets book.last h.rising (omega arith)))
      ∙ h.counts book.last ∙ ap length (all_until book.last 0 book.firsts.items book.last h.firsts (omega arith))

  -- one more version of a key that is there
  module _ (book new : VersionedBook V) (sets : List (Setting V)) (s : Setting V) (chain more : Chain V)
      (found : get nat_eq book.chains s.key ≡ Some chain) (updates : Updates nat_eq book.chains new.chains s.key (Some more)) (same : keys new.chains ≡ keys book.chains)
      (deeper : IsDeeper (olders_in book.pasts) (olders_in new.pasts) s.key (newest chain)) (now : newest more ≡ (s.position, s.value))
      (firsts : new.firsts.items ≡ book.firsts.items) (floor : new.floor ≡ book.floor) (last : new.last ≡ s.position) (kept : new.kept ≡ book.kept + 1)
      (rises : book.last < s.position) (tells : AreWhereTold new.chains.entries (places_in new.pasts))
      (few : length (places_in new.pasts) ≤ s.position) (h : IsBookOf book sets) where
    old_keys : keys_of (sets ++ s ∷ []) ≡ keys_of sets
    old_keys = keys_of-old sets s (subst (λ ks. list_any (nat_eq s.key) ks ≡ true) h.order (any_found s.key book.chains.entries chain found))

    kept_more : (key : ℕ) (c : Chain V) → get nat_eq new.chains key ≡ Some c → older_of key (olders_in new.pasts) ++ newest c ∷ [] ≡ versions_from new.floor (own key (sets ++ s ∷ []))
    kept_more key c e = by (nat_eq s.key key) refl ∙ ap (λ f. versions_from f (own key (sets ++ s ∷ []))) (sym floor)
      where
        by : (b : Bool) → nat_eq s.key key ≡ b → older_of key (olders_in new.pasts) ++ newest c ∷ [] ≡ versions_from book.floor (own key (sets ++ s ∷ []))
        by true is =
            let this : s.key ≡ key = eqb-true s.key key is in
            let got : more ≡ c = some_same more c (sym updates.1 ∙ ap (get nat_eq new.chains) this ∙ e) in
            subst (λ k. older_of k (olders_in new.pasts) ++ newest c ∷ [] ≡ versions_from book.floor (own k (sets ++ s ∷ []))) this
            (ap (λ l. l ++ newest c ∷ []) deeper.own ∙ ap (λ v. (older_of s.key (olders_in book.pasts) ++ newest chain ∷ []) ++ v ∷ []) (ap newest (sym got) ∙ now)
            ∙ ap (λ l. l ++ (s.position, s.value) ∷ []) (h.kept s.key chain found)
            ∙ sym (trimmed-push book.floor (own s.key sets) (s.position, s.value) (omega (arith, h.floor, rises)))
            ∙ ap (versions_from book.floor) (sym (own-push sets s)))
        by false isnt =
            ap (λ l. l ++ newest c ∷ []) (deeper.others key isnt) ∙ h.kept key c (sym (updates.2 key isnt) ∙ e) ∙ ap (versions_from book.floor) (sym (own-other sets s key isnt))

    absent_more : (key : ℕ) → get nat_eq new.chains key ≡ None → own key (sets ++ s ∷ []) ≡ []
    absent_more key e = by (nat_eq s.key key) refl
      where
        by : (b : Bool) → nat_eq s.key key ≡ b → own key (sets ++ s ∷ []) ≡ []
        by true is =
            let none : Some more ≡ None = sym updates.1 ∙ ap (get nat_eq new.chains) (eqb-true s.key key is) ∙ e in cc
        by false isnt = own-other sets s key isnt ∙ h.absent key (sym (updates.2 key isnt) ∙ e)

    begun_more : (i key first : ℕ) → slice_get new.firsts.items i ≡ Some first → slice_get (keys_of (sets ++ s ∷ [])) i ≡ Some key
        → first_position (own key (sets ++ s ∷ [])) ≡ Some first
    begun_more i key first at is =
        by (nat_eq s.key key) refl (h.begun i key first (sym (ap (λ l. slice_get l i) firsts) ∙ at) (sym (ap (λ l. slice_get l i) old_keys) ∙ is))
      where
        by : (t : Bool) → nat_eq s.key key ≡ t → first_position (own key sets) ≡ Some first → first_position (own key (sets ++ s ∷ [])) ≡ Some first
        by true this e =
            let pushed : own key (sets ++ s ∷ []) ≡ own key sets ++ (s.position, s.value) ∷ [] =
            subst (λ k. own k (sets ++ s ∷ []) ≡ own k sets ++ (s.position, s.value) ∷ []) (eqb-true s.key key this) (own-push sets s) in
            ap first_position pushed ∙ first_position-push (own key sets) (s.position, s.value) first e
        by false isnt e = ap first_position (own-other sets s key isnt) ∙ e

    counts_more : (p : ℕ) → length (keys_of (until p (sets ++ s ∷ []))) ≡ length (filter (λ first. nat_le first p) new.firsts.items)
    counts_more p = by (cases_lt p s.position) ∙ sym (ap (λ l. length (filter (λ first. nat_le first p) l)) firsts)
      where
        by : (p < s.position) ⊎ (s.position ≤ p) → length (keys_of (until p (sets ++ s ∷ []))) ≡ length (filter (λ first. nat_le first p) book.firsts.items)
        by (inl past) = ap (λ l. length (keys_of l)) (until_past p sets s past) ∙ h.counts p
        by (inr within) =
            ap (λ l. length (keys_of l)) (until_all p 0 (sets ++ s ∷ []) s.position (positions_rise sets s book.last h.rising rises) within)
            ∙ ap length old_keys ∙ as_many book sets h ∙ sym (ap length (all_until p 0 book.firsts.items book.last h.firsts (omega (arith, within, rises))))

    pub set_more : IsBookOf new (sets ++ s ∷ [])
    set_more = record {
      order = same ∙ h.order ∙ sym old_keys;
      kept = kept_more;
      absent = absent_more;
      rising = subst (λ l. IsRisingTo 0 (positions (sets ++ s ∷ [])) l) (sym last) (positions_rise sets s book.last h.rising rises);
      floor = omega (arith, floor, last, h.floor, rises);
      firsts = subst (λ l. IsRisingTo 0 l new.last) (sym firsts) (rising-longer 0 book.firsts.items book.last new.last h.firsts (omega (arith, last, rises)));
      begun = begun_more;
      counts = counts_more;
      count = omega (
        arith,
        kept,
        h.count,
        deeper.total,
        ap length same,
        length-map new.chains.entries (λ (e : ℕ × Chain V). e.0),
        length-map book.chains.entries (λ (e : ℕ × Chain V). e.0),
      );
      bound = omega (arith, kept, last, h.bound, rises);
      told = tells;
      few = omega (arith, few, last);
    }

  -- the entries stay, and the older versions of each key are what a floor asks for
  pub carried : (book new : VersionedBook V) (sets : List (Setting V)) → new.chains ≡ book.chains → new.firsts.items ≡ book.firsts.items → new.last ≡ book.last
      → AreWhereTold book.chains.entries (places_in new.pasts) → length (places_in new.pasts) ≤ length (places_in book.pasts) → new.floor ≤ book.last → new.kept ≡ kept_of new → new.kept ≤ book.kept
      → ((key : ℕ) (c : Chain V) → get nat_eq book.chains key ≡ Some c → older_of key (olders_in new.pasts) ++ newest c ∷ [] ≡ versions_from new.floor (own key sets))
      → IsBookOf book sets → IsBookOf new sets
  carried book new sets chains firsts last tells few floor count fewer each h = record {
    order = ap keys chains ∙ h.order;
    kept = λ key c e. each key c (sym (ap (λ m. get nat_eq m key) chains) ∙ e);
    absent = λ key e. h.absent key (sym (ap (λ m. get nat_eq m key) chains) ∙ e);
    rising = subst (λ l. IsRisingTo 0 (positions sets) l) (sym last) h.rising;
    floor = omega (arith, floor, last);
    firsts = subst (λ l. IsRisingTo 0 l new.last) (sym firsts) (subst (λ l. IsRisingTo 0 book.firsts.items l) (sym last) h.firsts);
    begun = λ i k first at is. h.begun i k first (sym (ap (λ l. slice_get l i) firsts) ∙ at) is;
    counts = λ p. h.counts p ∙ sym (ap (λ l. length (filter (λ first. nat_le first p) l)) firsts);
    count = count;
    bound = omega (arith, fewer, h.bound, last);
    told = subst (λ m. AreWhereTold m.entries (places_in new.pasts)) (sym chains) tells;
    few = omega (arith, few, h.few, last);
  }

  -- what is kept of a key is what positions from the floor on need of its settings
  pub versions_in-book : (book : VersionedBook V) (sets : List (Setting V)) (key : ℕ) → IsBookOf book sets → versions_in book key ≡ versions_from book.floor (own key sets)
  versions_in-book book sets key h = by (get nat_eq book.chains key) refl
    where
      by : (found : Option (Chain V)) → get nat_eq book.chains key ≡ found → kept_versions (older_of key (olders_in book.pasts)) found ≡ versions_from book.floor (own key sets)
      by None e = sym (ap (versions_from book.floor) (h.absent key e))
      by (Some chain) e = h.kept key chain e
