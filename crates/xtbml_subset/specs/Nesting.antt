-- Which sequences of pieces nest.
use Rattle.std.specs.Prelude.{◌≡◌, ◌≢◌, ℕ, ◌<◌, true, List, [], ◌∷◌, ◌++◌, length, drop, fold, Option, None, Some, unwrap_or}
use Rattle.std.specs.List.{AllByRecursion}
use Rattle.xtbml_subset.specs.declared.class.Class.TheVariants.{White}
use Rattle.xtbml_subset.specs.Classes.{is_in}
use Rattle.xtbml_subset.specs.Pieces.{Piece, byte, comment, declaration, start, whole, finish, IsMark, IsPiece, IsWhiteByte, AreSpelled}

-- A start tag opens an element, and an end tag closes the innermost.
abbrev pub open_behind : Option (List (List ℕ)) → Piece → Option (List (List ℕ))
open_behind names (start tag) = Some (tag.name ∷ unwrap_or names [])
open_behind names (whole tag) = Some (unwrap_or names [])
open_behind names (finish name) = Some (drop 1 (unwrap_or names []))
open_behind names (byte b) = names
open_behind names comment = names
open_behind names declaration = names

-- the names of the elements that are open, the innermost first; there is no such list before the first tag
abbrev pub open_after : List Piece → Option (List (List ℕ))
open_after before = fold open_behind None before

-- No element lies more than 64 deep, and no tag follows the end of the root.
abbrev pub MayStart : Option (List (List ℕ)) → Type 0
MayStart names = (length (unwrap_or names []) < 64) × (names ≢ Some [])

-- What may follow the pieces before it. A declaration has only white space before it, so there is at most one.
-- Outside the root, a byte is white space. An end tag has the name of the innermost open element.
abbrev pub MayFollow : List Piece → Piece → Type 0
MayFollow before declaration = AllByRecursion IsWhiteByte before
MayFollow before (byte b) = unwrap_or (open_after before) [] ≡ [] → is_in White b ≡ true
MayFollow before (finish name) = (outer : List (List ℕ)) × (open_after before ≡ Some (name ∷ outer))
MayFollow before (start tag) = MayStart (open_after before)
MayFollow before (whole tag) = MayStart (open_after before)
MayFollow before comment = Unit {0}

-- the bytes are pieces, after EF BB BF or nothing, and each of them may follow those before it
pub record IsNested (bytes : List ℕ) : Type 0 where
  pub mark : List ℕ
  pub rest : List ℕ
  pub pieces : List Piece
  pub parts : bytes ≡ mark ++ rest
  pub is_mark : IsMark mark
  pub spelled : AreSpelled IsPiece pieces rest
  pub nest : (before after : List Piece) (piece : Piece) → pieces ≡ before ++ piece ∷ after → MayFollow before piece
