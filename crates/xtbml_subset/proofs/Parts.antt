-- Parts of documents that the proofs have names for.
use Rattle.std.specs.Prelude.{◌≡◌, ℕ, ◌⊎◌, List, [], ◌++◌, codes}
use Rattle.xtbml_subset.specs.declared.class.Class.TheVariants.{White}
use Rattle.xtbml_subset.specs.Classes.{InClass}
use Rattle.xtbml_subset.specs.Pieces.{Piece, declaration, IsPiece, IsAttribute, AreSpelled}
use Rattle.xtbml_subset.specs.Texts.{value_of}
use Rattle.xtbml_subset.specs.Checks.{RateElement}
use Rattle.xtbml_subset.specs.Documents.{Node, text_of}
use Rattle.xtbml_subset.specs.inside.Reading.{Attribute}

abbrev pub Spell : List Piece → List ℕ → Type 0
Spell pieces bytes = AreSpelled IsPiece pieces bytes

abbrev pub AreAttributes : List ℕ → List Attribute → Type 0
AreAttributes text attributes = AreSpelled IsAttribute attributes text

abbrev pub IsDocumentOpening : List ℕ → Type 0
IsDocumentOpening opening = (opening ≡ [])
    ⊎ ((space : List ℕ) × (declared : List ℕ) × (opening ≡ space ++ declared) × InClass White space × IsPiece declaration declared)

abbrev pub node_row : Node → RateElement
node_row node = record { at = node.at; label = value_of (codes "t") node.tag.attributes; text = text_of node.inner }
