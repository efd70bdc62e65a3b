-- The elements that a reader finds, in order.
use Rattle.std.specs.Prelude.{ℕ, zero, suc, ◌+◌, ◌-◌, Bool, true, false, if◌then◌else◌, ◌==◌, ◌&&◌, List, [], ◌∷◌, ◌++◌, length, Option, None, Some}
use Rattle.xtbml_subset.specs.Names.{option_map_or, bytes_eq}
use Rattle.xtbml_subset.specs.declared.class.Class.TheVariants.{Text}
use Rattle.xtbml_subset.specs.Pieces.{Tag, Piece, byte, comment, declaration, start, whole, finish}
use Rattle.xtbml_subset.specs.inside.Reading.{byte_at, piece_at}
use Rattle.xtbml_subset.specs.Texts.{◌>>=◌}
use Rattle.xtbml_subset.specs.Classes.{front, after}

-- An element: the bytes from its `<` on, its tag, whether content and an end tag follow, and the bytes after the tag.
pub record Found : Type 0 where
  pub from : List ℕ
  pub tag : Tag
  pub is_open : Bool
  pub rest : List ℕ

-- each element, or those of a name
abbrev pub is_wanted : Option (List ℕ) → List ℕ → Bool
is_wanted None name = true
is_wanted (Some wanted) name = bytes_eq name wanted

-- A piece leads to a depth below the level that is searched, or to an element of that level, or ends the level.
pub data Step : Type 0 where
  on : ℕ → Step
  found : Tag → Bool → Step
  closed : Step

abbrev pub is_hit : ℕ → Option (List ℕ) → Tag → Bool
is_hit depth wanted tag = (depth == 0) && is_wanted wanted tag.name

abbrev pub left : ℕ → Step
left zero = closed
left (suc depth) = on depth

abbrev pub step_of : ℕ → Option (List ℕ) → Piece → Step
step_of depth wanted (byte b) = on depth
step_of depth wanted comment = on depth
step_of depth wanted declaration = on depth
step_of depth wanted (start tag) = if is_hit depth wanted tag then found tag true else on (depth + 1)
step_of depth wanted (whole tag) = if is_hit depth wanted tag then found tag false else on depth
step_of depth wanted (finish name) = left depth

abbrev pub depth_in : Bool → ℕ
depth_in is_open = if is_open then 1 else 0

abbrev pub depth_after : Step → Option ℕ
depth_after (on depth) = Some depth
depth_after (found tag is_open) = Some (depth_in is_open)
depth_after closed = None

abbrev pub found_by : List ℕ → List ℕ → Step → List Found
found_by from rest (on depth) = []
found_by from rest (found tag is_open) = record { from = from; tag = tag; is_open = is_open; rest = rest } ∷ []
found_by from rest closed = []

-- after the next k bytes, and so many levels below the one that is searched: the elements of that level that match
unfoldable pub elements_from : ℕ → ℕ → Option (List ℕ) → List ℕ → List Found
elements_from k depth wanted [] = []
elements_from (suc k) depth wanted (b ∷ bytes) = elements_from k depth wanted bytes
elements_from zero depth wanted (b ∷ bytes) =
    option_map_or
    (λ x. found_by (b ∷ bytes) x.1 (step_of depth wanted x.0)
    ++ option_map_or (λ next. elements_from (length bytes - length x.1) next wanted bytes) (depth_after (step_of depth wanted x.0)) [])
    (piece_at (b ∷ bytes))
    []

abbrev pub elements_at : ℕ → Option (List ℕ) → List ℕ → List Found
elements_at depth wanted bytes = elements_from 0 depth wanted bytes

-- the elements of a name after an element, at its level
abbrev pub siblings_at : List ℕ → Found → List Found
siblings_at name element = elements_at (depth_in element.is_open) (Some name) element.rest

-- the children of a name
abbrev pub children_at : List ℕ → Found → List Found
children_at name element = if element.is_open then elements_at 0 (Some name) element.rest else []

-- the content, if it is text alone
unfoldable pub text_at : Found → Option (List ℕ)
text_at element =
    if element.is_open
    then (byte_at 60 (after Text element.rest) >>= (λ rest. byte_at 47 rest) >>= λ rest. Some (front Text element.rest))
    else Some []
