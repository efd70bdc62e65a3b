-- What workers make of parts of the items
use Rattle.std.specs.Prelude.{ℕ, List, length, take, drop, ◌≤◌}
use Rattle.std.specs.List.{AllByRecursion, AllZip}
use Rattle.parallel_value.specs.Pieces.{MayGive}
use Rattle.parallel_value.specs.declared.sharing.Made.{Made}

module _ {I O : Type 0} where
  -- the values are those of the part that begins with this item and has so many items
  abbrev pub IsMadePart : (I → O → Type 0) → ℕ → List I → Made O → Type 0
  IsMadePart Gives size items made = (made.first ≤ length items) × AllZip Gives (take size (drop made.first items)) made.values.items

  -- each part was made by one of the workers
  abbrev pub AreMadeParts : {P : Type 0} → (P → I → O → Type 0) → List P → ℕ → List I → List (Made O) → Type 0
  AreMadeParts gives pieces size items made = AllByRecursion (IsMadePart (MayGive gives pieces) size items) made

  -- it gives only what one of the workers may give
  abbrev pub IsOneOf : {P : Type 0} → (P → I → O → Type 0) → List P → P → Type 0
  IsOneOf gives pieces piece = (item : I) (value : O) → gives piece item value → MayGive gives pieces item value
