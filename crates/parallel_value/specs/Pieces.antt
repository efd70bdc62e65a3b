-- What several workers take and give, by what each of them does
use Rattle.std.specs.Prelude.{◌≡◌, ◌⊎◌, List, [], ◌∷◌, ◌++◌, Result, Ok, Vec}
use Rattle.std.specs.Global.{Global}
use Rattle.std.specs.List.{AllByRecursion, AllZip}
use Rattle.memory_requests.specs.declared.evidence.NoMemory.{NoMemory}

-- every worker takes every item
abbrev pub TakeAll : {P I : Type 0} → (P → I → Type 0) → List P → List I → Type 0
TakeAll takes pieces items = AllByRecursion (λ piece. AllByRecursion (takes piece) items) pieces

module _ {P I O : Type 0} where
  -- one of the workers may give this value of the item
  abbrev pub MayGive : (P → I → O → Type 0) → List P → I → O → Type 0
  MayGive gives [] item value = ⊥
  MayGive gives (piece ∷ pieces) item value = gives piece item value ⊎ MayGive gives pieces item value

  -- the values of the items, in their order
  abbrev pub AreValues : (P → I → O → Type 0) → List P → List I → List O → Type 0
  AreValues gives pieces items values = AllZip (MayGive gives pieces) items values

  -- every worker gives the value of this function
  abbrev pub Compute : (P → I → O → Type 0) → List P → (I → O) → Type 0
  Compute gives pieces f = AllByRecursion (λ (piece : P). (item : I) (value : O) → gives piece item value → value ≡ f item) pieces

  -- a worker later takes the items that it took, and gives no value that it couldn't have given before
  pub record IsAsBefore (takes : P → I → Type 0) (gives : P → I → O → Type 0) (old new : P) : Type 0 where
    pub takes_still : (item : I) → takes old item → takes new item
    pub gives_only : (item : I) (value : O) → gives new item value → gives old item value

  -- each worker is as before, and the number of workers is the same
  abbrev pub AreAsBefore : (P → I → Type 0) → (P → I → O → Type 0) → List P → List P → Type 0
  AreAsBefore takes gives old new = AllZip (IsAsBefore takes gives) old new

-- both lists were made, and this is the first followed by the second
abbrev pub AreBoth : {O : Type 0} → Result (Vec O Global) NoMemory → Result (Vec O Global) NoMemory → List O → Type 0
AreBoth (Ok front) (Ok back) values = values ≡ front.items ++ back.items
AreBoth _ _ _ = ⊥

-- such values were added after those that were there
abbrev pub AddsBehind : {O : Type 0} → (List O → Type 0) → (old new : List O) → Type 0
AddsBehind {O} AreSuch old new = (added : List O) × (new ≡ old ++ added) × AreSuch added

-- what was there stands, and what was added is after it
abbrev pub StandBehind : {O : Type 0} → (old new : List O) → Type 0
StandBehind {O} old new = (added : List O) × (new ≡ old ++ added)
