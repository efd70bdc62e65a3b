-- The pasts of a book: the older versions of the keys that have several.
use Rattle.std.specs.Prelude.{◌≡◌, ℕ, ◌+◌, ◌<◌, ◌⊎◌, Bool, true, false, List, [], ◌∷◌, ◌++◌, length, map, nat_eq, if◌then◌else◌, slice_get, Option, None, Some, vec_len, vec_capacity}
use Rattle.std.specs.List.{list_any}
use Rattle.versioned_book.specs.declared.chain.Chain.{Chain}
use Rattle.versioned_book.specs.declared.past.Past.{Past}
use Rattle.versioned_book.specs.declared.past.Pasts.{Pasts}

-- whether something stands at a key's place that is the key's
abbrev pub is_key : {X : Type 0} → ℕ → Option (ℕ × X) → Bool
is_key key None = false
is_key key (Some past) = nat_eq past.0 key

-- the places after one more older version of a key, whose entry named one place and now names another
abbrev pub PlacesAfter : List (ℕ × ℕ) → List (ℕ × ℕ) → ℕ → ℕ → ℕ → ℕ → Type 0
PlacesAfter before after key index place now =
    ((after ≡ before) × (now ≡ place))
    ⊎ ((after ≡ before ++ (key, index) ∷ []) × (now ≡ length before) × (is_key key (slice_get before place) ≡ false))

module _ {V : Type 0} where
  -- the version that a chain holds
  abbrev pub newest : Chain V → ℕ × V
  newest chain = (chain.position, chain.value)

  -- the key of each past, and the place of the key's entry
  abbrev pub places_in : Pasts V → List (ℕ × ℕ)
  places_in pasts = map (λ past. (past.key, past.index)) pasts.list.items

  -- the key of each past, and its versions
  abbrev pub olders_in : Pasts V → List (ℕ × List (ℕ × V))
  olders_in pasts = map (λ past. (past.key, past.older.items)) pasts.list.items

  -- the older versions of a key
  abbrev pub older_of : ℕ → List (ℕ × List (ℕ × V)) → List (ℕ × V)
  older_of key [] = []
  older_of key (past ∷ pasts) = if nat_eq key past.0 then past.1 else older_of key pasts

  -- what stands at a key's place of the pasts, if it is the key's
  abbrev pub own_older : ℕ → Option (ℕ × List (ℕ × V)) → List (ℕ × V)
  own_older key None = []
  own_older key (Some past) = if nat_eq key past.0 then past.1 else []

  -- how many older versions there are
  abbrev pub older_total : List (ℕ × List (ℕ × V)) → ℕ
  older_total [] = 0
  older_total (past ∷ pasts) = length past.1 + older_total pasts

  -- one more version of a key
  pub record IsDeeper (before after : List (ℕ × List (ℕ × V))) (key : ℕ) (version : ℕ × V) : Type 0 where
    pub own : older_of key after ≡ older_of key before ++ version ∷ []
    pub others : (k : ℕ) → nat_eq key k ≡ false → older_of k after ≡ older_of k before
    pub total : older_total after ≡ older_total before + 1

  -- an entry's key, and the place that the entry names
  abbrev pub place_by_entry : Option (ℕ × Chain V) → Option (ℕ × ℕ)
  place_by_entry None = None
  place_by_entry (Some entry) = Some (entry.0, entry.1.past)

  -- each past is at the place that the entry of its key names
  abbrev pub AreWhereTold : List (ℕ × Chain V) → List (ℕ × ℕ) → Type 0
  AreWhereTold entries places = (n key index : ℕ) → slice_get places n ≡ Some (key, index) → place_by_entry (slice_get entries index) ≡ Some (key, n)

  -- one more older version of the key needs no further memory
  pub record HasPastRoom (pasts : Pasts V) (key place : ℕ) : Type 0 where
    pub own : (past : Past V) → slice_get pasts.list.items place ≡ Some past → nat_eq past.key key ≡ true → vec_len past.older < vec_capacity past.older
    pub fresh : is_key key (slice_get (places_in pasts) place) ≡ false → (vec_len pasts.list < vec_capacity pasts.list) × (0 < vec_capacity pasts.ready)

-- no key is equal to a later one
abbrev pub AreApart : List ℕ → Type 0
AreApart [] = Unit {0}
AreApart (key ∷ keys) = (list_any (nat_eq key) keys ≡ false) × AreApart keys
