-- What a cache keeps is right, and stays so.
use Rattle.policy_value.proofs.Names.{rules, ◌≡◌, ℕ, Bool, true, List, slice_get, All, Contains, Result, Ok, Err, OnOk, OnErr, Option, Some, None, IfSome, sym, ap, subst, ◌∙◌, inl, inr, All-weaker, All-contains, All-contains_itself, lookup, Rates, Dated, IsRowOf, IsRightPremium, CacheKey, premium_of, Premium, IsCoverOf, cap_by, cover_by, Covered, LruCache, lru_cache, promoted, put_entries}
use Rattle.policy_value.specs.contracts.key.CacheKeyPartialEq.TheImpl.{eq-value}
use Rattle.std.specs.Cmp.Rules.{comparing, hashing}
use Rattle.select_rates.specs.Along.{table_along}
use Rattle.lru.proofs.CallerLemmas.{Contains-promoted, Contains-lookup, Contains-put_entries}

module _ {X : Type 0} (P : X → Type 0) where
  All-from_contains : (xs : List X) → ((x : X) → Contains xs x → P x) → All P xs
  All-from_contains xs f = All-weaker (Contains xs) P f xs (All-contains_itself xs)

module _ {K V : Type 0} (P : K × V → Type 0) where
  -- no entry comes in when one is moved to the front
  pub All-promoted : (test : K → Bool) (es : List (K × V)) → All P es → All P (promoted test es)
  All-promoted test es all = All-from_contains P (promoted test es) (λ e at. All-contains P es e all (Contains-promoted test es e at))

  -- what is found is what its key says
  pub found_right : (test : K → Bool) (key : K) (es : List (K × V)) (o : Option V) → o ≡ lookup test es → ((k : K) → test k ≡ true → key ≡ k) → All P es
      → IfSome o (λ v. P (key, v))
  found_right test key es None is same all = tt
  found_right test key es (Some v) is same all =
      let found = Contains-lookup test es v (sym is) in
      subst (λ (k : K). P (k, v)) (sym (same found.0 found.2)) (All-contains P es (found.0, v) all found.1)

  -- a pair that is put in is right if the pair is
  pub All-put : (eq : K → K → Bool) (c : LruCache K V) (key : K) (v : V) → ((k : K) → eq key k ≡ true → key ≡ k) → P (key, v) → All P c.entries → All P (put_entries eq c key v)
  All-put eq c key v same new all = All-from_contains P (put_entries eq c key v) (λ e at. elim (Contains-put_entries eq c key v e at) [
    | inl was ↦ All-contains P c.entries e all was
    | inr put ↦ elim put.1 [
      | inl k ↦ subst P (pair_is e (sym k) (sym put.0)) new
      | inr w ↦ subst P (pair_is e (same e.0 w.2) (sym put.0)) new
    ]
  ])
    where
      pair_is : (e : K × V) → key ≡ e.0 → v ≡ e.1 → (key, v) ≡ e
      pair_is e k w = ap (λ (j : K). (j, v)) k ∙ ap (λ (x : V). (e.0, x)) w

  -- put or not because memory was refused
  pub All-after_put : {X E : Type 0} (eq : K → K → Bool) (c new : LruCache K V) (key : K) (v : V) (r : Result X E)
      → OnOk r (new ≡ lru_cache (put_entries eq c key v) c.cap) → OnErr r (new ≡ c) → ((k : K) → eq key k ≡ true → key ≡ k) → P (key, v) → All P c.entries → All P new.entries
  All-after_put eq c new key v (Ok x) put stays same right all = rw put (All-put eq c key v same right all)
  All-after_put eq c new key v (Err e) put stays same right all = rw stays all

-- keys that are equal are one
pub same_key : (key other : CacheKey) → eq-value.it key other ≡ true → key ≡ other
same_key key other is = search (comparing, hashing, rules)

pub itself : (key : CacheKey) → eq-value.it key key ≡ true
itself key = search (comparing, hashing, rules)

-- a place of a basis has one row
pub one_entry : (basis : List Dated) (place : ℕ) (entry other : Dated) → slice_get basis place ≡ Some entry → slice_get basis place ≡ Some other
    → entry ≡ other
one_entry basis place entry other row again = cc

pub one_row : (basis : List Dated) (place issue : ℕ) (table other : Rates) (bp more : ℕ) → IsRowOf basis place issue table bp
    → IsRowOf basis place issue other more → (table ≡ other) × (bp ≡ more)
one_row basis place issue table other bp more row again =
    let same = one_entry basis place row.0 again.0 row.1 again.1 in
    (row.2 ∙ ap (λ (e : Dated). table_along e.table issue) same ∙ sym again.2, row.3 ∙ ap (λ (e : Dated). e.bp) same ∙ sym again.3)

-- a premium of a cover by a row of the basis is right by it
pub premium_by_row : (basis : List Dated) (key : CacheKey) (covered : Covered) (premium : Premium) → IsCoverOf basis key.plan key.age key.years covered
    → key.basis_row ≡ covered.own.basis_row → premium ≡ premium_of (cover_by covered) (cap_by covered) → IsRightPremium basis (key, premium)
premium_by_row basis key covered premium cover row is entry shape at has =
    let here = rw (← row) at cover.is.row in
    let same = one_entry basis key.basis_row cover.entry entry here at in
    let has' = rw (← same) at has in
    let one : covered.shape ≡ shape = cc in
    rw (← same, ← one) (rw (cover.is.own, cover.is.next, cover.is.interest) at is)

-- and one that is right is the cover's
pub premium_of_row : (basis : List Dated) (key : CacheKey) (covered : Covered) (premium : Premium) → IsCoverOf basis key.plan key.age key.years covered
    → key.basis_row ≡ covered.own.basis_row → IsRightPremium basis (key, premium) → premium ≡ premium_of (cover_by covered) (cap_by covered)
premium_of_row basis key covered premium cover row right =
    let here = rw (← row) at cover.is.row in
    rw (cover.is.own, cover.is.next, cover.is.interest) (right cover.entry covered.shape here cover.shape)
