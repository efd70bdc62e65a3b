-- The keys of a cache after one of them was asked for.
use Rattle.policy_value.proofs.Names.{true≢false, subst, ◌≡◌, ℕ, ◌+◌, ◌-◌, ◌^◌, min, Bool, true, false, List, [], ◌∷◌, Contains, Option, Some, None, IfNone, is_some, refl, sym, ap, ◌∙◌, inl, inr, take-map, keys_of, lookup, lookup_entry, remove_entry, LruCache, lru_cache, promoted, put_entries, HasAsked, KeepsKeys, ColumnCache, CacheKey, Premium}
use Rattle.std.specs.Set.{remove_key}
use Rattle.lru.proofs.Splits.{Contains-nil, Contains-cons, Contains-head, Contains-tail}
use Rattle.policy_value.specs.contracts.key.CacheKeyPartialEq.TheImpl.{eq-value}
use Rattle.policy_value.proofs.Keeping.{itself, same_key}

module _ {K V : Type 0} (test : K → Bool) where
  keys_removed : (es : List (K × V)) → keys_of (remove_entry test es) ≡ remove_key test (keys_of es)
  keys_removed [] = refl
  keys_removed (e ∷ es) = (elim (test e.0) as (λ y. test e.0 ≡ y → keys_of (remove_entry test (e ∷ es)) ≡ remove_key test (keys_of (e ∷ es))) [
    | true ↦ λ t. rw t refl
    | false ↦ λ t. rw t (ap (λ (ks : List K). e.0 ∷ ks) (keys_removed es))
  ]) refl

  -- what is found is an entry, whose key passes
  entry_found : (es : List (K × V)) (v : V) → lookup test es ≡ Some v → (e : K × V) × (lookup_entry test es ≡ Some e) × (test e.0 ≡ true) × Contains (keys_of es) e.0
  entry_found [] v h = cc
  entry_found (e ∷ es) v h = (elim (test e.0) as (λ y. test e.0 ≡ y → (f : K × V) × (lookup_entry test (e ∷ es) ≡ Some f) × (test f.0 ≡ true) × Contains (keys_of (e ∷ es)) f.0) [
    | true ↦ λ t. (e, rw t refl, t, Contains-head e.0 (keys_of es))
    | false ↦ λ t. let on = entry_found es v (rw t at h) in (on.0, rw t on.1, on.2, Contains-tail e.0 (keys_of es) on.0.0 on.3)
  ]) refl

  -- if nothing is found no entry's key passes
  none_found : (es : List (K × V)) → lookup test es ≡ None → (lookup_entry test es ≡ None) × ((k : K) → Contains (keys_of es) k → test k ≡ false)
  none_found [] h = (refl, λ k at. absurd (Contains-nil k at))
  none_found (e ∷ es) h = (elim (test e.0) as (λ y. test e.0 ≡ y → (lookup_entry test (e ∷ es) ≡ None) × ((k : K) → Contains (keys_of (e ∷ es)) k → test k ≡ false)) [
    | true ↦ λ t. let h' = rw t at h in absurd (some_none h')
    | false ↦ λ t. let on = none_found es (rw t at h) in (
      rw t on.0,
      λ k at. elim (Contains-cons e.0 (keys_of es) k at) [
        | inl same ↦ ap test (sym same) ∙ t
        | inr later ↦ on.1 k later
      ],
    )
  ]) refl
    where
      some_none : {v : V} → (let o : Option V = Some v in o) ≡ None → ⊥
      some_none h = cc

-- a key that is found goes to the front
pub asked_hit : (key : CacheKey) (old new : ColumnCache) (v : Premium) → lookup (eq-value.it key) old.premiums.entries ≡ Some v
    → new.premiums ≡ lru_cache (promoted (eq-value.it key) old.premiums.entries) old.premiums.cap → new.unkept ≡ old.unkept → HasAsked key old new
asked_hit key old new v found is unkept =
    let es = old.premiums.entries in
    let entry = entry_found (eq-value.it key) es v found in
    let same = same_key key entry.0.0 entry.2 in
    record {
      most = ap (λ (l : LruCache CacheKey Premium). l.cap) is;
      hit = λ at. (
        rw (is, entry.1) (ap (λ (k : CacheKey). k ∷ keys_of (remove_entry (eq-value.it key) es)) (sym same)
            ∙ ap (λ (ks : List CacheKey). key ∷ ks) (keys_removed (eq-value.it key) es)),
        unkept,
      );
      miss = λ absent. absurd (absent (subst (λ (k : CacheKey). Contains (keys_of es) k) (sym same) entry.3));
    }

-- a key that isn't found is put first, or isn't kept
pub missing : (key : CacheKey) (es : List (CacheKey × Premium)) → lookup (eq-value.it key) es ≡ None → Contains (keys_of es) key → ⊥
missing key es none at =
    let no = (none_found (eq-value.it key) es none).1 key at in
    let yes = itself key in
    true≢false (sym yes ∙ no)

pub asked_kept : (key : CacheKey) (old new : ColumnCache) (v : Premium) → lookup (eq-value.it key) old.premiums.entries ≡ None
    → new.premiums ≡ lru_cache (put_entries eq-value.it old.premiums key v) old.premiums.cap → new.unkept ≡ old.unkept → HasAsked key old new
asked_kept key old new v none put unkept =
    let es = old.premiums.entries in
    record {
      most = ap (λ (l : LruCache CacheKey Premium). l.cap) put;
      hit = λ at. absurd (missing key es none at);
      miss = λ absent. inl (record {
        keys = rw (put, (none_found (eq-value.it key) es none).0)
            (ap (λ (ks : List CacheKey). key ∷ ks) (sym (take-map (λ (e : CacheKey × Premium). e.0) (old.premiums.cap - 1) es)));
        unkept = unkept;
      });
    }

pub asked_unkept : (key : CacheKey) (old new : ColumnCache) → lookup (eq-value.it key) old.premiums.entries ≡ None → new.premiums ≡ old.premiums
    → new.unkept ≡ min (old.unkept + 1) (2 ^ 64 - 1) → HasAsked key old new
asked_unkept key old new none stays unkept = record {
  most = ap (λ (l : LruCache CacheKey Premium). l.cap) stays;
  hit = λ at. absurd (missing key old.premiums.entries none at);
  miss = λ absent. inr (record { keys = ap (λ (l : LruCache CacheKey Premium). keys_of l.entries) stays; unkept = unkept });
}

-- the same for a cache with the same keys
pub asked_from : (key : CacheKey) (older old new : ColumnCache) → old.premiums ≡ older.premiums → old.unkept ≡ older.unkept → HasAsked key old new
    → HasAsked key older new
asked_from key older old new premiums unkept asked = record {
  most = asked.most ∙ ap (λ (l : LruCache CacheKey Premium). l.cap) premiums;
  hit = λ at. rw (← premiums, ← unkept) (asked.hit (rw premiums at));
  miss = λ absent. elim (asked.miss (λ at. absent (rw (← premiums) at))) [
    | inl taken ↦ inl (record { keys = rw (← premiums) taken.keys; unkept = taken.unkept ∙ unkept })
    | inr missed ↦ inr (record { keys = rw (← premiums) missed.keys; unkept = missed.unkept ∙ ap (λ (n : ℕ). min (n + 1) (2 ^ 64 - 1)) unkept })
  ];
}

-- nothing moves where nothing is found
pub not_promoted : (key : CacheKey) (c new : LruCache CacheKey Premium) → lookup (eq-value.it key) c.entries ≡ None → new ≡ lru_cache (promoted (eq-value.it key) c.entries) c.cap → new ≡ c
not_promoted key c new none is = rw (none_found (eq-value.it key) c.entries none).0 at is

pub missed : (key : CacheKey) (c new : LruCache CacheKey Premium) (o : Option Premium) → o ≡ lookup (eq-value.it key) c.entries → new ≡ lru_cache (promoted (eq-value.it key) c.entries) c.cap
    → IfNone o ((new ≡ c) × (lookup (eq-value.it key) c.entries ≡ None))
missed key c new None e is = (not_promoted key c new (sym e) is, sym e)
missed key c new (Some v) e is = tt

pub some_value : {V : Type 0} (o : Option V) → is_some o ≡ true → (v : V) × (o ≡ Some v)
some_value None h = cc
some_value (Some v) h = (v, refl)

pub none_value : {V : Type 0} (o : Option V) → is_some o ≡ false → o ≡ None
none_value None h = refl
none_value (Some v) h = cc

-- the keys stay twice
pub kept_twice : (old mid new : ColumnCache) → KeepsKeys old mid → KeepsKeys mid new → KeepsKeys old new
kept_twice old mid new first then = record {
  most = then.most ∙ first.most;
  keys = then.keys ∙ first.keys;
  unkept = then.unkept ∙ first.unkept;
}

-- a key was asked for, and then the keys stay
pub asked_then_kept : (key : CacheKey) (old mid new : ColumnCache) → HasAsked key old mid → KeepsKeys mid new → HasAsked key old new
asked_then_kept key old mid new asked kept = record {
  most = kept.most ∙ asked.most;
  hit = λ at. let was = asked.hit at in (kept.keys ∙ was.0, kept.unkept ∙ was.1);
  miss = λ absent. elim (asked.miss absent) [
    | inl taken ↦ inl (record { keys = kept.keys ∙ taken.keys; unkept = kept.unkept ∙ taken.unkept })
    | inr missed ↦ inr (record { keys = kept.keys ∙ missed.keys; unkept = kept.unkept ∙ missed.unkept })
  ];
}
