-- The machine that follows the pieces, one after the other.
use Rattle.std.specs.Prelude.{◌≡◌, ℕ, if◌then◌else◌, nat_lt, List, [], ◌∷◌, ◌++◌, length, Option, None, Some}
use Rattle.std.specs.Str.{bytes_eq}
use Rattle.xtbml_subset.specs.declared.class.Class.TheVariants.{White}
use Rattle.xtbml_subset.specs.declared.state.Phase.{Phase}
use Rattle.xtbml_subset.specs.declared.state.Phase.TheVariants.{Opening, Prolog, Epilog}
use Rattle.xtbml_subset.specs.Classes.{is_in}
use Rattle.xtbml_subset.specs.Pieces.{Piece, byte, comment, declaration, start, whole, finish, IsMark, IsPiece, AreSpelled}

-- The state after some pieces: the names of the open elements, the innermost first. If none is open, the phase says
-- what may come: Opening is the start, with only white space before; Prolog is from then to the root; Epilog is after
-- the root's start.
pub record State : Type 0 where
  pub phase : Phase
  pub names : List (List ℕ)

abbrev pub outside : Phase → State
outside phase = record { phase = phase; names = [] }

abbrev pub deepest : ℕ
deepest = 64

abbrev pub past : Phase → Phase
past Opening = Prolog
past Prolog = Prolog
past Epilog = Epilog

-- Outside the root there may be white space and comments, one declaration with only white space before it, and the
-- root itself.
abbrev pub after_outside : Phase → Piece → Option State
after_outside phase (byte b) = if is_in White b then Some (outside phase) else None
after_outside phase comment = Some (outside (past phase))
after_outside Opening declaration = Some (outside Prolog)
after_outside Prolog declaration = None
after_outside Epilog declaration = None
after_outside Opening (start tag) = Some (record { phase = Epilog; names = tag.name ∷ [] })
after_outside Prolog (start tag) = Some (record { phase = Epilog; names = tag.name ∷ [] })
after_outside Epilog (start tag) = None
after_outside Opening (whole tag) = Some (outside Epilog)
after_outside Prolog (whole tag) = Some (outside Epilog)
after_outside Epilog (whole tag) = None
after_outside phase (finish name) = None

-- In an element there may be anything except a declaration; no element is too deep, and an end tag has the name of
-- the innermost open element.
abbrev pub after_inside : Phase → List ℕ → List (List ℕ) → Piece → Option State
after_inside phase name names (byte b) = Some (record { phase = phase; names = name ∷ names })
after_inside phase name names comment = Some (record { phase = phase; names = name ∷ names })
after_inside phase name names declaration = None
after_inside phase name names (start tag) =
    if nat_lt (length (name ∷ names)) deepest then Some (record { phase = phase; names = tag.name ∷ name ∷ names }) else None
after_inside phase name names (whole tag) =
    if nat_lt (length (name ∷ names)) deepest then Some (record { phase = phase; names = name ∷ names }) else None
after_inside phase name names (finish last) =
    if bytes_eq last name then Some (record { phase = phase; names = names }) else None

abbrev pub after_names : Phase → List (List ℕ) → Piece → Option State
after_names phase [] piece = after_outside phase piece
after_names phase (name ∷ names) piece = after_inside phase name names piece

-- the state after a piece, or none if the piece may not come there
abbrev pub after_piece : State → Piece → Option State
after_piece state piece = after_names state.phase state.names piece

-- the machine goes from state to state through these pieces
abbrev pub Steps : State → List Piece → State → Type 0
Steps state [] end = state ≡ end
Steps state (piece ∷ pieces) end = (next : State) × (after_piece state piece ≡ Some next) × Steps next pieces end

-- EF BB BF may stand at the very start, and the machine goes through the pieces after it
pub record IsWalked (bytes : List ℕ) (end : State) : Type 0 where
  pub mark : List ℕ
  pub rest : List ℕ
  pub pieces : List Piece
  pub parts : bytes ≡ mark ++ rest
  pub is_mark : IsMark mark
  pub spelled : AreSpelled IsPiece pieces rest
  pub steps : Steps (outside Opening) pieces end
