-- How many keys there are at a position, and the value of one of them.
use Rattle.versioned_book.proofs.Names.{◌≡◌, ℕ, zero, suc, ◌+◌, ◌<◌, ◌≤◌, Bool, true, false, nat_eq, nat_le, List, [], ◌∷◌, ◌++◌, length, filter, slice_get, get_or, Option, None, Some, IsSome, is_some, Result, Ok, OnOk, refl, sym, ap, ◌∙◌, subst, cond, if◌then◌else◌, arith, le-leb, leb-true, leb-false, lt-leb, length-map, slice_get_within, list_any, get, IsRising, IsRisingTo, first_position, or_else, versions_from, value_at, newest, older_of, olders_in, own_older, places_in, Setting, keys_of, own, until, IsBookOf, Chain, VersionedBook}
use Rattle.versioned_book.proofs.VersionSteps.{rising-trimmed, some_same, value_at-past, value_at-trimmed}
use Rattle.versioned_book.proofs.SettingSteps.{first_until, none_until, own_rising}
use Rattle.versioned_book.proofs.BookSteps.{as_many}
use Rattle.versioned_book.proofs.Apart.{key_there}
use Rattle.versioned_book.proofs.KeptFew.{book_apart, pasts_apart}
use Rattle.versioned_book.proofs.PastSteps.{own_is_older, same_keys, same_test, seen_there}

all_higher : (low : ℕ) (qs : List ℕ) (last j d : ℕ) → IsRisingTo low qs last → j < length qs → low < get_or qs j d
all_higher low [] last j d h within = absurd (omega (arith, within))
all_higher low (x ∷ qs) last zero d h within = h.0
all_higher low (x ∷ qs) last (suc j) d h within = omega (arith, h.0, all_higher x qs last j d h.1 (omega (arith, within)))

in_order : (low : ℕ) (qs : List ℕ) (last i j d : ℕ) → IsRisingTo low qs last → i ≤ j → j < length qs → get_or qs i d ≤ get_or qs j d
in_order low [] last i j d h le within = absurd (omega (arith, within))
in_order low (x ∷ qs) last zero zero d h le within = omega arith
in_order low (x ∷ qs) last zero (suc j) d h le within = omega (arith, all_higher x qs last j d h.1 (omega (arith, within)))
in_order low (x ∷ qs) last (suc i) zero d h le within = absurd (omega (arith, le))
in_order low (x ∷ qs) last (suc i) (suc j) d h le within = in_order x qs last i j d h.1 (omega (arith, le)) (omega (arith, within))

pub front_until : (p low : ℕ) (qs : List ℕ) (last j : ℕ) → IsRisingTo low qs last → j < length qs → get_or qs j 0 ≤ p → (i : ℕ) → i < j + 1 → nat_le (get_or qs i 0) p ≡ true
front_until p low qs last j h within e i le = le-leb (get_or qs i 0) p (omega (arith, in_order low qs last i j 0 h (omega (arith, le)) within, e))

pub back_past : (p low : ℕ) (qs : List ℕ) (last j : ℕ) → IsRisingTo low qs last → p < get_or qs j 0 → (i : ℕ) → j ≤ i → i < length qs → nat_le (get_or qs i 0) p ≡ false
back_past p low qs last j h e i le within = lt-leb (get_or qs i 0) p (omega (arith, in_order low qs last j i 0 h le within, e))

pub partition_count : (p : ℕ) (qs : List ℕ) (r : ℕ) → r ≤ length qs → ((k : ℕ) → k < r → nat_le (get_or qs k 0) p ≡ true)
    → ((k : ℕ) → r ≤ k → k < length qs → nat_le (get_or qs k 0) p ≡ false) → r ≡ length (filter (λ q. nat_le q p) qs)
partition_count p [] r within front back = omega (arith, within)
partition_count p (x ∷ qs) zero within front back =
    partition_count p qs zero (omega arith) (λ k b. absurd (omega (arith, b))) (λ k a b. back (suc k) (omega arith) (omega (arith, b)))
    ∙ sym (ap (λ b. length (cond b (x ∷ filter (λ q. nat_le q p) qs) (filter (λ q. nat_le q p) qs))) (back zero (omega arith) (omega arith)))
partition_count p (x ∷ qs) (suc r) within front back =
    ap suc (partition_count p qs r (omega (arith, within)) (λ k b. front (suc k) (omega (arith, b))) (λ k a b. back (suc k) (omega (arith, a)) (omega (arith, b))))
    ∙ sym (ap (λ b. length (cond b (x ∷ filter (λ q. nat_le q p) qs) (filter (λ q. nat_le q p) qs))) (front zero (omega arith)))

pub until_few : (p low : ℕ) (qs : List ℕ) (last : ℕ) → IsRisingTo low qs last → low ≤ p → low + length (filter (λ q. nat_le q p) qs) ≤ p
until_few p low [] last h within = omega (arith, within)
until_few p low (x ∷ qs) last h within = by (nat_le x p) refl (until_few p x qs last h.1)
  where
    by : (b : Bool) → nat_le x p ≡ b → (x ≤ p → x + length (filter (λ q. nat_le q p) qs) ≤ p) → low + length (cond b (x ∷ filter (λ q. nat_le q p) qs) (filter (λ q. nat_le q p) qs)) ≤ p
    by true e rest = omega (arith, h.0, rest (leb-true x p e))
    by false e rest = omega (arith, within, ap length (none_until p x qs last h.1 (omega (arith, leb-false x p e))))

pub none_of : {X : Type 0} (o : Option X) → false ≡ is_some o → o ≡ None
none_of None h = refl
none_of (Some x) h = cc

pub ok_of : {A E : Type 0} {P : Type 0} (r : Result A E) (x : A) → r ≡ Ok x → OnOk r P → P
ok_of {A} {E} {P} r x e h = subst (λ t. OnOk t P) e h

module _ {V : Type 0} where
  some_else : (a : Option V) (v : V) → IsSome (or_else a (Some v))
  some_else None v = refl
  some_else (Some w) v = refl

  pub within_keys : (book : VersionedBook V) (sets : List (Setting V)) (p index : ℕ) → IsBookOf book sets → index < length (keys_of (until p sets)) → index < length book.chains.entries
  within_keys book sets p index h within =
      let first = first_until p 0 book.firsts.items book.last index h.firsts (subst (λ n. index < n) (h.counts p) within) in
      omega (arith, slice_get_within book.firsts.items index first.0 first.1, as_many book sets h, ap length h.order, length-map book.chains.entries (λ (e : ℕ × Chain V). e.0))

  rising-front : (low : ℕ) (vs : List (ℕ × V)) (v : ℕ × V) → IsRising low (vs ++ v ∷ []) → IsRising low vs
  rising-front low [] v h = tt
  rising-front low (x ∷ vs) v h = (h.0, rising-front x.0 vs v h.1)

  -- what stands at the place that a key's entry states are the key's older versions
  pub older_read : (book : VersionedBook V) (sets : List (Setting V)) (key : ℕ) (chain : Chain V) → IsBookOf book sets → get nat_eq book.chains key ≡ Some chain
      → own_older key (slice_get (olders_in book.pasts) chain.past) ≡ older_of key (olders_in book.pasts)
  older_read book sets key chain h found =
      own_is_older (olders_in book.pasts) chain.past key (pasts_apart book sets h)
      (sym (same_test book.pasts.list.items chain.past key) ∙ seen_there book.chains.entries (places_in book.pasts) (book_apart book sets h) h.told key chain found
      ∙ ap (list_any (nat_eq key)) (same_keys book.pasts.list.items))

  -- the versions of the key at an index, the newest of which its chain holds
  pub record IsChainAt (book : VersionedBook V) (sets : List (Setting V)) (index key : ℕ) (chain : Chain V) : Type 0 where
    pub place : slice_get (keys_of sets) index ≡ Some key
    pub older : own_older key (slice_get (olders_in book.pasts) chain.past) ≡ older_of key (olders_in book.pasts)
    pub kept : older_of key (olders_in book.pasts) ++ newest chain ∷ [] ≡ versions_from book.floor (own key sets)
    pub rising : IsRising 0 (older_of key (olders_in book.pasts))
    pub value : (p : ℕ) → book.floor ≤ p → value_at p (older_of key (olders_in book.pasts) ++ newest chain ∷ []) ≡ value_at p (own key sets)
    pub before : (p : ℕ) → book.floor ≤ p → p < chain.position → value_at p (own_older key (slice_get (olders_in book.pasts) chain.past)) ≡ value_at p (own key sets)

  pub chain_at : (book : VersionedBook V) (sets : List (Setting V)) (index key : ℕ) (chain : Chain V) → IsBookOf book sets → slice_get book.chains.entries index ≡ Some (key, chain)
      → get nat_eq book.chains key ≡ Some chain → IsChainAt book sets index key chain
  chain_at book sets index key chain h entry found =
      let kept : older_of key (olders_in book.pasts) ++ newest chain ∷ [] ≡ versions_from book.floor (own key sets) = h.kept key chain found in
      record {
        place = sym (ap (λ l. slice_get l index) h.order) ∙ key_there book.chains.entries index key chain entry;
        older = older_read book sets key chain h found;
        kept = kept;
        rising = rising-front 0 (older_of key (olders_in book.pasts)) (newest chain) (subst (IsRising 0) (sym kept) (rising-trimmed book.floor 0 (own key sets) (own_rising key 0 sets book.last h.rising)));
        value = λ p from. ap (value_at p) kept ∙ value_at-trimmed book.floor p (own key sets) from;
        before = λ p from past.
            ap (value_at p) (older_read book sets key chain h found) ∙ sym (value_at-past p (older_of key (olders_in book.pasts)) chain.position chain.value past)
            ∙ ap (value_at p) kept ∙ value_at-trimmed book.floor p (own key sets) from;
      }

  begun_value : (p first : ℕ) (vs : List (ℕ × V)) → first_position vs ≡ Some first → first ≤ p → IsSome (value_at p vs)
  begun_value p first [] e within = cc
  begun_value p first (v ∷ vs) e within =
      let here : nat_le v.0 p ≡ true = le-leb v.0 p (omega (arith, some_same v.0 first e, within)) in
      subst IsSome (sym (ap (λ t. or_else (value_at p vs) (if t then Some v.1 else None)) here)) (some_else (value_at p vs) v.1)

  -- it has a value where the key was there
  pub has_value : (book : VersionedBook V) (sets : List (Setting V)) (p index key : ℕ) → IsBookOf book sets → slice_get (keys_of sets) index ≡ Some key
      → index < length (keys_of (until p sets)) → IsSome (value_at p (own key sets))
  has_value book sets p index key h place within =
      let first = first_until p 0 book.firsts.items book.last index h.firsts (subst (λ n. index < n) (h.counts p) within) in
      begun_value p first.0 (own key sets) (h.begun index key first.0 first.1 place) first.2
