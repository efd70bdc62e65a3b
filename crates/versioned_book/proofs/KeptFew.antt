-- How many versions are kept: at most one for each key, and one for each setting after the floor.
use Rattle.versioned_book.proofs.Names.{◌≡◌, ℕ, zero, suc, slice_get, ◌+◌, ◌≤◌, Bool, true, false, nat_eq, List, [], ◌∷◌, length, map, Some, refl, sym, ap, subst, if◌then◌else◌, ◌||◌, arith, eqb-true, length-map, length_push, list_any, entry_keys, keys, Setting, settings_after, keys_of, own, AreApart, newest, older_of, olders_in, places_in, older_total, IsBookOf, kept_of, Chain, Past, VersionedBook}
use Rattle.versioned_book.proofs.VersionSteps.{few_trimmed, some_same}
use Rattle.versioned_book.proofs.SettingSteps.{own-after, own_rising}
use Rattle.versioned_book.proofs.Apart.{apart-after, lookup_at}
use Rattle.versioned_book.proofs.PastSteps.{older_there, places_apart, same_keys, told_of}

module _ {V : Type 0} where
  -- how many of the settings are of these keys
  abbrev all_own : List (Setting V) → List ℕ → ℕ
  all_own sets [] = 0
  all_own sets (k ∷ ks) = length (own k sets) + all_own sets ks

  own_none : (s : Setting V) (sets : List (Setting V)) (ks : List ℕ) → list_any (nat_eq s.key) ks ≡ false → all_own (s ∷ sets) ks ≡ all_own sets ks
  own_none s sets [] h = refl
  own_none s sets (k ∷ ks) h = by (nat_eq s.key k) h (own_none s sets ks)
    where
      by : (b : Bool) → (b || list_any (nat_eq s.key) ks) ≡ false → (list_any (nat_eq s.key) ks ≡ false → all_own (s ∷ sets) ks ≡ all_own sets ks)
          → length (if b then (s.position, s.value) ∷ own k sets else own k sets) + all_own (s ∷ sets) ks ≡ length (own k sets) + all_own sets ks
      by true g rest = cc
      by false g rest = ap (λ n. length (own k sets) + n) (rest g)

  own_once : (s : Setting V) (sets : List (Setting V)) (ks : List ℕ) → AreApart ks → all_own (s ∷ sets) ks ≤ all_own sets ks + 1
  own_once s sets [] h = omega arith
  own_once s sets (k ∷ ks) h = by (nat_eq s.key k) refl (own_once s sets ks h.1)
    where
      by : (b : Bool) → nat_eq s.key k ≡ b → all_own (s ∷ sets) ks ≤ all_own sets ks + 1
          → length (if b then (s.position, s.value) ∷ own k sets else own k sets) + all_own (s ∷ sets) ks ≤ length (own k sets) + all_own sets ks + 1
      by true e rest = omega (arith, own_none s sets ks (subst (λ x. list_any (nat_eq x) ks ≡ false) (sym (eqb-true s.key k e)) h.0))
      by false e rest = omega (arith, rest)

  own_empty : (none : List (Setting V)) (ks : List ℕ) → none ≡ [] → all_own none ks ≡ 0
  own_empty none [] e = refl
  own_empty none (k ∷ ks) e = omega (arith, own_empty none ks e, ap (λ l. length (own k l)) e)

  own_few : (sets : List (Setting V)) (ks : List ℕ) → AreApart ks → all_own sets ks ≤ length sets
  own_few [] ks h = omega (arith, own_empty [] ks refl)
  own_few (s ∷ sets) ks h = omega (arith, own_once s sets ks h, own_few sets ks h)

  pasts_few : (sets : List (Setting V)) (ps : List (ℕ × List (ℕ × V))) → ((n key : ℕ) (older : List (ℕ × V)) → slice_get ps n ≡ Some (key, older) → length older ≤ length (own key sets))
      → older_total ps ≤ all_own sets (entry_keys ps)
  pasts_few sets [] h = omega arith
  pasts_few sets (p ∷ ps) h = omega (arith, h 0 p.0 p.1 refl, pasts_few sets ps (λ n key older at. h (suc n) key older at))

  place_too : (ps : List (Past V)) (n key : ℕ) (older : List (ℕ × V)) → slice_get {X = ℕ × List (ℕ × V)} (map (λ past. (past.key, past.older.items)) ps) n ≡ Some (key, older)
      → (index : ℕ) × (slice_get {X = ℕ × ℕ} (map (λ past. (past.key, past.index)) ps) n ≡ Some (key, index))
  place_too [] n key older h = cc
  place_too (p ∷ ps) zero key older h = (p.index, ap (λ x. Some (x.0, p.index)) (some_same (p.key, p.older.items) (key, older) h))
  place_too (p ∷ ps) (suc n) key older h = place_too ps n key older h

  pub book_apart : (book : VersionedBook V) (sets : List (Setting V)) → IsBookOf book sets → AreApart (keys book.chains)
  book_apart book sets h = subst AreApart (sym h.order) (apart-after [] sets tt)

  -- no two pasts of a book are of one key
  pub pasts_apart : (book : VersionedBook V) (sets : List (Setting V)) → IsBookOf book sets → AreApart (entry_keys (olders_in book.pasts))
  pasts_apart book sets h = subst AreApart (same_keys book.pasts.list.items) (places_apart book.chains.entries (places_in book.pasts) (book_apart book sets h) h.told)

  pub kept_few : (book : VersionedBook V) (sets : List (Setting V)) → IsBookOf book sets → kept_of book ≤ length (keys_of sets) + length (settings_after book.floor sets)
  kept_few book sets h =
      omega (
        arith,
        pasts_few (settings_after book.floor sets) (olders_in book.pasts) each,
        own_few (settings_after book.floor sets) (entry_keys (olders_in book.pasts)) (pasts_apart book sets h),
        length-map book.chains.entries (λ (e : ℕ × Chain V). e.0),
        ap length h.order,
      )
    where
      each : (n key : ℕ) (older : List (ℕ × V)) → slice_get (olders_in book.pasts) n ≡ Some (key, older) → length older ≤ length (own key (settings_after book.floor sets))
      each n key older at =
          let place = place_too book.pasts.list.items n key older at in
          let entry = told_of (slice_get book.chains.entries place.0) key n (h.told n key place.0 place.1) in
          let kept = h.kept key entry.0 (lookup_at book.chains.entries place.0 key entry.0 (book_apart book sets h) entry.1) in
          omega (
            arith,
            ap length (older_there (olders_in book.pasts) n key older (pasts_apart book sets h) at),
            length_push (older_of key (olders_in book.pasts)) (newest entry.0),
            ap length kept,
            few_trimmed book.floor 0 (own key sets) (own_rising key 0 sets book.last h.rising),
            ap length (own-after key book.floor sets),
          )
