-- A book and the settings that it stands for.
use Rattle.std.specs.Prelude.{◌≡◌, ℕ, ◌+◌, ◌<◌, ◌≤◌, List, [], ◌∷◌, ◌++◌, length, filter, nat_eq, nat_le, slice_get, Option, None, Some, vec_len, vec_capacity}
use Rattle.std.specs.Coded.{×_prop}
use Rattle.std.proofs.Props.{props}
use Rattle.indexmap.specs.IndexMap.{get, index_of, keys, spare}
use Rattle.versioned_book.specs.Versions.{IsRisingTo, first_position, versions_from}
use Rattle.versioned_book.specs.Pasts.{AreWhereTold, HasPastRoom, newest, older_of, olders_in, places_in, older_total}
use Rattle.versioned_book.specs.Settings.{Setting, keys_of, own, positions, until}
use Rattle.versioned_book.specs.declared.chain.Chain.{Chain}
use Rattle.versioned_book.specs.declared.place.KeyPlace.{KeyPlace}
use Rattle.versioned_book.specs.declared.book.VersionedBook.{VersionedBook}

-- for how many keys a book takes memory ahead of their settings, at most
abbrev pub most_expected : ℕ
most_expected = 4000000

module _ {V : Type 0} where
  -- how many versions a book keeps: the newest of each key, and the older ones
  abbrev pub kept_of : VersionedBook V → ℕ
  kept_of book = length book.chains.entries + older_total (olders_in book.pasts)

  -- what is kept of a key, which may be nothing
  abbrev pub kept_versions : List (ℕ × V) → Option (Chain V) → List (ℕ × V)
  kept_versions older None = []
  kept_versions older (Some chain) = older ++ newest chain ∷ []

  abbrev pub versions_in : VersionedBook V → ℕ → List (ℕ × V)
  versions_in book key = kept_versions (older_of key (olders_in book.pasts)) (get nat_eq book.chains key)

  -- the book stands for these settings, of which it keeps what its floor and the positions above it need
  pub record IsBookOf (book : VersionedBook V) (sets : List (Setting V)) : Type 0 where
    pub order : keys book.chains ≡ keys_of sets
    pub kept : (key : ℕ) (chain : Chain V) → get nat_eq book.chains key ≡ Some chain
        → older_of key (olders_in book.pasts) ++ newest chain ∷ [] ≡ versions_from book.floor (own key sets)
    pub absent : (key : ℕ) → get nat_eq book.chains key ≡ None → own key sets ≡ []
    pub rising : IsRisingTo 0 (positions sets) book.last
    pub floor : book.floor ≤ book.last
    pub firsts : IsRisingTo 0 book.firsts.items book.last
    pub begun : (i key first : ℕ) → slice_get book.firsts.items i ≡ Some first → slice_get (keys_of sets) i ≡ Some key → first_position (own key sets) ≡ Some first
    pub counts : (p : ℕ) → length (keys_of (until p sets)) ≡ length (filter (λ first. nat_le first p) book.firsts.items)
    pub count : book.kept ≡ kept_of book
    pub bound : book.kept ≤ book.last
    pub told : AreWhereTold book.chains.entries (places_in book.pasts)
    pub few : length (places_in book.pasts) ≤ book.last

  -- the book stands for some settings, which is true of each book that the calls have made
  abbrev pub IsSomeBook : VersionedBook V → Type 0
  IsSomeBook book = (sets : List (Setting V)) × IsBookOf book sets

  -- the place is that of the key among the keys of the book, if the key is there
  abbrev pub IsPlaceIn : VersionedBook V → KeyPlace → Type 0
  IsPlaceIn book place = place.index ≡ index_of nat_eq book.chains place.key

  -- one more setting of this key needs no further memory
  pub record CanSet (book : VersionedBook V) (key : ℕ) : Type 0 where
    pub fresh : get nat_eq book.chains key ≡ None → (0 < spare book.chains) × (vec_len book.firsts < vec_capacity book.firsts)
    pub more : (chain : Chain V) → get nat_eq book.chains key ≡ Some chain → HasPastRoom book.pasts key chain.past

IsRisingTo-prop : (low : ℕ) (qs : List ℕ) (last : ℕ) → IsProp (IsRisingTo low qs last)
IsRisingTo-prop low [] last = Prim.hlevel props
IsRisingTo-prop low (q ∷ qs) last = ×_prop (Prim.hlevel props) (IsRisingTo-prop q qs last)

-- the property has at most one proof
pub IsBookOf-prop : {V : Type 0} → IsSet V → (book : VersionedBook V) (sets : List (Setting V)) → IsProp (IsBookOf book sets)
IsBookOf-prop is_set book sets = Prim.hlevel (props, is_set, IsRisingTo-prop)
