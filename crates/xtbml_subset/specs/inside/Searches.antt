-- The searches for the elements from which a table is read, while the pieces of a file go past.
use Rattle.std.specs.Prelude.{◌≡◌, ℕ, ◌+◌, ◌-◌, ◌≤◌, Bool, true, false, length, if◌then◌else◌, ◌==◌, List, [], ◌∷◌, Option, None, Some, MatchBool, codes}
use Rattle.xtbml_subset.specs.declared.search.Passed.{Passed}
use Rattle.xtbml_subset.specs.Pieces.{Piece}
use Rattle.xtbml_subset.specs.inside.Elements.{Found, Step, on, found, closed, step_of, depth_in, elements_at, children_at, siblings_at}

-- a piece, how many elements are open before it, and the bytes from it on and after it
pub record Passing : Type 0 where
  pub piece : Piece
  pub depth : ℕ
  pub from : List ℕ
  pub rest : List ℕ

-- no element was found so far; or this one was; or the level ended without one
pub data Sought : Type 0 where
  seeking : Sought
  hit : Found → Sought
  missed : Sought

abbrev pub by_step : Passing → Step → Sought
by_step passing (on depth) = seeking
by_step passing (found tag is_open) = hit (record { from = passing.from; tag = tag; is_open = is_open; rest = passing.rest })
by_step passing closed = missed

-- a search in a level goes on at pieces of the level itself
abbrev pub sought_at : ℕ → Option (List ℕ) → Passing → Sought → Sought
sought_at level wanted passing seeking =
    if passing.depth == level then by_step passing (step_of 0 wanted passing.piece) else seeking
sought_at level wanted passing (hit f) = hit f
sought_at level wanted passing missed = missed

abbrev pub opens : Sought → Bool
opens seeking = false
opens (hit f) = f.is_open
opens missed = false

abbrev pub sought_under : ℕ → List ℕ → Passing → Sought → Sought → Sought
sought_under level name passing above search = if opens above then sought_at level (Some name) passing search else search

abbrev pub tallied : Passed → Sought → Passed
tallied tally seeking = tally
tallied tally (hit f) = record { count = tally.count + 1; is_over = tally.is_over }
tallied tally missed = record { count = tally.count; is_over = true }

-- the elements of a level are counted as they pass, until the level ends
abbrev pub tally_at : ℕ → Option (List ℕ) → Passing → Passed → Passed
tally_at level wanted passing tally = if tally.is_over then tally else tallied tally (sought_at level wanted passing seeking)

abbrev pub tally_under : ℕ → List ℕ → Passing → Sought → Passed → Passed
tally_under level name passing above tally = if opens above then tally_at level (Some name) passing tally else tally

abbrev pub no_tally : Passed
no_tally = record { count = 0; is_over = false }

-- the root, and below it the first element of each name
pub record ElementPath : Type 0 where
  pub root : Sought
  pub table : Sought
  pub about : Sought
  pub values : Sought
  pub axis : Sought
  pub inner : Sought
  pub first : Sought
  pub tally : Passed

abbrev pub no_path : ElementPath
no_path = record { root = seeking; table = seeking; about = seeking; values = seeking; axis = seeking; inner = seeking; first = seeking; tally = no_tally }

abbrev pub path_after : Passing → ElementPath → ElementPath
path_after passing path = record {
  root = sought_at 0 None passing path.root;
  table = sought_under 1 (codes "Table") passing path.root path.table;
  about = sought_under 2 (codes "MetaData") passing path.table path.about;
  values = sought_under 2 (codes "Values") passing path.table path.values;
  axis = sought_under 3 (codes "Axis") passing path.values path.axis;
  inner = sought_under 4 (codes "Axis") passing path.axis path.inner;
  first = sought_under 4 (codes "Y") passing path.axis path.first;
  tally = tally_under 4 (codes "Y") passing path.axis path.tally;
}

-- the state of a search for elements, with so many open, before the remaining bytes
abbrev pub Stands : ℕ → Option (List ℕ) → ℕ → List ℕ → List Found → Sought → Type 0
Stands level wanted depth rest elements seeking = (level ≤ depth) × (elements ≡ elements_at (depth - level) wanted rest)
Stands level wanted depth rest elements (hit f) = elements ≡ f ∷ elements_at (depth_in f.is_open) wanted f.rest
Stands level wanted depth rest elements missed = elements ≡ []

-- the same for the search in an element that another search has to find
abbrev pub StandsUnder : ℕ → List ℕ → ℕ → List ℕ → Sought → Sought → Type 0
StandsUnder level name depth rest seeking search = search ≡ seeking
StandsUnder level name depth rest (hit f) search =
    MatchBool f.is_open (Stands level (Some name) depth rest (children_at name f) search) (search ≡ seeking)
StandsUnder level name depth rest missed search = Unit {0}

-- the state of a count of elements
abbrev pub Tallies : ℕ → Option (List ℕ) → ℕ → List ℕ → List Found → Passed → Type 0
Tallies level wanted depth rest elements tally =
    MatchBool tally.is_over
    (length elements ≡ tally.count)
    ((level ≤ depth) × (length elements ≡ tally.count + length (elements_at (depth - level) wanted rest)))

abbrev pub TalliesUnder : ℕ → List ℕ → ℕ → List ℕ → Sought → Passed → Type 0
TalliesUnder level name depth rest seeking tally = tally ≡ no_tally
TalliesUnder level name depth rest (hit f) tally =
    MatchBool f.is_open (Tallies level (Some name) depth rest (children_at name f) tally) (tally ≡ no_tally)
TalliesUnder level name depth rest missed tally = Unit {0}

pub record IsPath (bytes : List ℕ) (depth : ℕ) (rest : List ℕ) (path : ElementPath) : Type 0 where
  pub root : Stands 0 None depth rest (elements_at 0 None bytes) path.root
  pub table : StandsUnder 1 (codes "Table") depth rest path.root path.table
  pub about : StandsUnder 2 (codes "MetaData") depth rest path.table path.about
  pub values : StandsUnder 2 (codes "Values") depth rest path.table path.values
  pub axis : StandsUnder 3 (codes "Axis") depth rest path.values path.axis
  pub inner : StandsUnder 4 (codes "Axis") depth rest path.axis path.inner
  pub first : StandsUnder 4 (codes "Y") depth rest path.axis path.first
  pub tally : TalliesUnder 4 (codes "Y") depth rest path.axis path.tally

-- ---- at the end of a document

-- the first child of a name, or that there is none
abbrev pub IsFirstIn : List ℕ → Found → Sought → Type 0
IsFirstIn name parent seeking = children_at name parent ≡ []
IsFirstIn name parent (hit f) = children_at name parent ≡ f ∷ siblings_at name f
IsFirstIn name parent missed = children_at name parent ≡ []

abbrev pub IsFirstUnder : List ℕ → Sought → Sought → Type 0
IsFirstUnder name seeking search = Unit {0}
IsFirstUnder name (hit parent) search = IsFirstIn name parent search
IsFirstUnder name missed search = Unit {0}

abbrev pub IsCountUnder : List ℕ → Sought → Passed → Type 0
IsCountUnder name seeking tally = Unit {0}
IsCountUnder name (hit parent) tally = length (children_at name parent) ≡ tally.count
IsCountUnder name missed tally = Unit {0}

pub record IsFound (root : Found) (path : ElementPath) : Type 0 where
  pub table : IsFirstIn (codes "Table") root path.table
  pub about : IsFirstUnder (codes "MetaData") path.table path.about
  pub values : IsFirstUnder (codes "Values") path.table path.values
  pub axis : IsFirstUnder (codes "Axis") path.values path.axis
  pub inner : IsFirstUnder (codes "Axis") path.axis path.inner
  pub first : IsFirstUnder (codes "Y") path.axis path.first
  pub tally : IsCountUnder (codes "Y") path.axis path.tally
