-- What is kept of the reserves per unit of amount is right, and is in the place where it is looked for.
use Rattle.policy_value.proofs.Names.{◌≡◌, ℕ, ◌<◌, true, List, [], ◌∷◌, ◌++◌, All, Option, None, Some, IfSome, get_or, length, set, slice_get, refl, subst, sym, ap, ◌∙◌, get_or-set_same, length-set, All-push, IsUnitFor, Dated, IsRightPlace, IsRightUnit, Covered, CacheKey, IsCoverOf, cap_by, cover_by, kept_unit, unit_place}
use Rattle.std.proofs.lemmas.Option.{get_or_from_slice_get, slice_get_read}
use Rattle.present_value.specs.declared.pair.Pair.{Pair}
use Rattle.policy_value.specs.contracts.key.CacheKeyPartialEq.TheImpl.{eq-value}
use Rattle.policy_value.specs.declared.units.KeptUnit.{KeptUnit}
use Rattle.policy_value.proofs.Keeping.{one_entry, same_key}

-- the reserve of a cover by a row of the basis is right by that row
pub unit_by_row : (basis : List Dated) (key : CacheKey) (covered : Covered) (t : ℕ) (unit : Pair) → IsCoverOf basis key.plan key.age key.years covered
    → key.basis_row ≡ covered.own.basis_row → IsUnitFor (cover_by covered) (cap_by covered) t unit → IsRightUnit basis (kept_unit key t unit)
unit_by_row basis key covered t unit cover row is entry shape at has =
    let here = rw (← row) at cover.is.row in
    let same = one_entry basis key.basis_row cover.entry entry here at in
    let has' = rw (← same) at has in
    let one : covered.shape ≡ shape = cc in
    rw (← same, ← one) (rw (cover.is.own, cover.is.next, cover.is.interest) at is)

-- and one that is right is the cover's
pub unit_of_row : (basis : List Dated) (key : CacheKey) (covered : Covered) (t : ℕ) (unit : Pair) → IsCoverOf basis key.plan key.age key.years covered
    → key.basis_row ≡ covered.own.basis_row → IsRightUnit basis (kept_unit key t unit) → IsUnitFor (cover_by covered) (cap_by covered) t unit
unit_of_row basis key covered t unit cover row right =
    let here = rw (← row) at cover.is.row in
    rw (cover.is.own, cover.is.next, cover.is.interest) (right cover.entry covered.shape here cover.shape)

-- a unit whose key and year are equal to these is theirs
pub unit_is : (place : Option KeptUnit) (kept : KeptUnit) (key : CacheKey) (t : ℕ) → place ≡ Some kept → eq-value.it kept.key key ≡ true → kept.t ≡ t
    → place ≡ Some (kept_unit key t kept.unit)
unit_is place kept key t at equal year =
    let same = same_key kept.key key equal in
    let is : kept ≡ kept_unit key t kept.unit = rw (← same, ← year) refl in
    at ∙ ap (λ (k : KeptUnit). let o : Option KeptUnit = Some k in o) is

-- what is found at a place is right
pub right_found : (basis : List Dated) (places : List (Option KeptUnit)) (place : ℕ) (found : Option KeptUnit) (key : CacheKey) (t : ℕ) (result : Option Pair)
    → All (IsRightPlace basis) places → place < length places → found ≡ get_or places place found → IfSome result (λ unit. found ≡ Some (kept_unit key t unit))
    → IfSome result (λ unit. IsRightUnit basis (kept_unit key t unit))
right_found basis places place found key t None all within here is = tt
right_found basis places place found key t (Some unit) all within here is = rw (sym here ∙ is) at (all place found within)

-- it is in its place
pub holds_found : (places : List (Option KeptUnit)) (place : ℕ) (found : Option KeptUnit) (key : CacheKey) (t : ℕ) (result : Option Pair)
    → place ≡ unit_place key t (length places) → place < length places → found ≡ get_or places place found → IfSome result (λ unit. found ≡ Some (kept_unit key t unit))
    → IfSome result (λ unit. slice_get places (unit_place key t (length places)) ≡ Some (Some (kept_unit key t unit)))
holds_found places place found key t None at within here is = tt
holds_found places place found key t (Some unit) at within here is =
    let one : Option KeptUnit = Some (kept_unit key t unit) in
    subst (λ k. slice_get places k ≡ Some one) at
    (slice_get_read places (length places) place one refl within (subst (λ (o : Option KeptUnit). o ≡ get_or places place o) is here))

-- and what is in its place is found
pub found_held : (places : List (Option KeptUnit)) (place : ℕ) (found : Option KeptUnit) (key : CacheKey) (t : ℕ) (unit : Pair)
    → place ≡ unit_place key t (length places) → found ≡ get_or places place found
    → slice_get places (unit_place key t (length places)) ≡ Some (Some (kept_unit key t unit)) → found ≡ Some (kept_unit key t unit)
found_held places place found key t unit at here holds =
    let one : Option KeptUnit = Some (kept_unit key t unit) in
    here ∙ get_or_from_slice_get places place one found (subst (λ k. slice_get places k ≡ Some one) (sym at) holds)

-- a unit that is put in its place is found there
pub holds_set : (places : List (Option KeptUnit)) (key : CacheKey) (t : ℕ) (unit : Pair) (place : ℕ) → place ≡ unit_place key t (length places) → place < length places
    → slice_get (set places place (Some (kept_unit key t unit))) (unit_place key t (length (set places place (Some (kept_unit key t unit))))) ≡ Some (Some (kept_unit key t unit))
holds_set places key t unit place is within =
    let one : Option KeptUnit = Some (kept_unit key t unit) in
    let count = length-set places place one in
    subst (λ k. slice_get (set places place one) k ≡ Some one) (is ∙ ap (λ n. unit_place key t n) (sym count))
    (slice_get_read (set places place one) (length places) place one (sym count) within (sym (get_or-set_same places place one one within)))

-- an empty place more
pub places_more : (basis : List Dated) (places : List (Option KeptUnit)) → All (IsRightPlace basis) places → All (IsRightPlace basis) (places ++ None ∷ [])
places_more basis places all = All-push (IsRightPlace basis) places None all tt
