-- How far the pieces at the start of the bytes nest.
use Rattle.std.specs.Prelude.{ℕ, zero, suc, ◌-◌, Bool, true, false, if◌then◌else◌, List, [], ◌∷◌, length, Option, None, Some, map, slice_index_or}
use Rattle.std.specs.Option.{option_map_or, unwrap_or}
use Rattle.xtbml_subset.specs.declared.state.Phase.{Phase}
use Rattle.xtbml_subset.specs.declared.state.Phase.TheVariants.{Opening, Prolog, Epilog}
use Rattle.xtbml_subset.specs.declared.state.Nesting.{Nesting}
use Rattle.xtbml_subset.specs.inside.Reading.{byte_at, piece_at}
use Rattle.xtbml_subset.specs.Texts.{◌>>=◌}
use Rattle.xtbml_subset.specs.inside.Machine.{State, outside, after_piece}

-- the first so many names, the last of them first
abbrev pub names_of : ℕ → List (List ℕ) → List (List ℕ)
names_of zero names = []
names_of (suc depth) names = slice_index_or names depth [] ∷ names_of depth names

abbrev pub state_of : Nesting → State
state_of nesting = record { phase = nesting.phase; names = names_of nesting.depth (map (λ name. name.now) nesting.names) }

-- after the next k bytes: the state after all pieces that nest, and the bytes after these
unfoldable pub walk_from : ℕ → State → List ℕ → State × List ℕ
walk_from k state [] = (state, [])
walk_from (suc k) state (b ∷ bytes) = walk_from k state bytes
walk_from zero state (b ∷ bytes) =
    option_map_or
    (λ x. option_map_or (λ next. walk_from (length bytes - length x.1) next bytes) (after_piece state x.0) (state, b ∷ bytes))
    (piece_at (b ∷ bytes))
    (state, b ∷ bytes)

abbrev pub walk_at : State → List ℕ → State × List ℕ
walk_at state bytes = walk_from 0 state bytes

-- the bytes after EF BB BF, or all of them
abbrev pub after_mark : List ℕ → List ℕ
after_mark bytes = unwrap_or (byte_at 239 bytes >>= (λ rest. byte_at 187 rest) >>= λ rest. byte_at 191 rest) bytes

abbrev pub is_empty : List ℕ → Bool
is_empty [] = true
is_empty (b ∷ bytes) = false

abbrev pub is_ended : Phase → List (List ℕ) → Bool
is_ended Epilog [] = true
is_ended Epilog (name ∷ names) = false
is_ended Opening names = false
is_ended Prolog names = false

abbrev pub fault_place : ℕ → State × List ℕ → Option ℕ
fault_place total end = if is_empty end.1 then (if is_ended end.0.phase end.0.names then None else Some total) else Some (total - length end.1)

-- the place up to which the bytes nest; none if they are a document
unfoldable pub fault_at : List ℕ → Option ℕ
fault_at bytes = fault_place (length bytes) (walk_at (outside Opening) (after_mark bytes))
