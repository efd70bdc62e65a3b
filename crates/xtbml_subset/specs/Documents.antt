-- The grammar of a document.
use Rattle.std.specs.Prelude.{◌≡◌, ℕ, zero, suc, ◌+◌, ◌⊎◌, true, List, [], ◌∷◌, ◌++◌, length, if◌then◌else◌, Option, None, Some, codes}
use Rattle.std.specs.List.{AllByRecursion}
use Rattle.std.specs.Option.{option_map}
use Rattle.std.specs.Str.{bytes_eq}
use Rattle.xtbml_subset.specs.declared.class.Class.TheVariants.{White, Text}
use Rattle.xtbml_subset.specs.Classes.{is_in, InClass}
use Rattle.xtbml_subset.specs.Pieces.{Tag, Piece, comment, declaration, start, whole, finish, IsPiece, IsMark, IsWhiteByte, AreSpelled}
use Rattle.xtbml_subset.specs.Texts.{value_of}
use Rattle.xtbml_subset.specs.Checks.{Asks}

-- Content is nothing, or begins with a byte of text, a comment or an element, and goes on. An element has the place
-- of its `<`, its tag and its content.
pub data Content : Type 0 where
  nothing : Content
  letter : ℕ → Content → Content
  remark : Content → Content
  element : ℕ → Tag → Content → Content → Content

-- An element ends with its tag, or has content and an end tag of its name. `Inside` is the content, from its place
-- on.
abbrev pub IsElement : (Inside : ℕ → List ℕ → Type 0) → ℕ → ℕ → Tag → Content → List ℕ → Type 0
IsElement Inside at place tag inner text =
    (place ≡ at)
    × ((IsPiece (whole tag) text × (inner ≡ nothing))
    ⊎ ((opening : List ℕ) × (inside : List ℕ) × (closing : List ℕ) × (text ≡ opening ++ (inside ++ closing))
    × IsPiece (start tag) opening × Inside (at + length opening) inside × IsPiece (finish tag.name) closing))

-- the bytes at a place are this content, in which elements lie at most so many levels deep
abbrev pub IsContent : ℕ → Content → ℕ → List ℕ → Type 0
IsContent levels nothing at bytes = bytes ≡ []
IsContent levels (letter b more) at bytes = (rest : List ℕ) × (bytes ≡ b ∷ rest) × (is_in Text b ≡ true) × IsContent levels more (at + 1) rest
IsContent levels (remark more) at bytes =
    (text : List ℕ) × (rest : List ℕ) × (bytes ≡ text ++ rest) × IsPiece comment text × IsContent levels more (at + length text) rest
IsContent zero (element place tag inner more) at bytes = ⊥
IsContent (suc levels) (element place tag inner more) at bytes =
    (text : List ℕ) × (rest : List ℕ) × (bytes ≡ text ++ rest)
    × IsElement (λ start inside. IsContent levels inner start inside) at place tag inner text
    × IsContent (suc levels) more (at + length text) rest

-- white space and comments
abbrev pub IsMisc : List ℕ → Type 0
IsMisc bytes =
    (pieces : List Piece) × AreSpelled IsPiece pieces bytes × AllByRecursion (λ (piece : Piece). IsWhiteByte piece ⊎ (piece ≡ comment)) pieces

-- an element with its place
pub record Node : Type 0 where
  pub at : ℕ
  pub tag : Tag
  pub inner : Content

-- EF BB BF or nothing; a declaration, which white space may precede, or nothing; white space and comments, the root, white space and comments
pub record IsDocument (bytes : List ℕ) (root : Node) : Type 0 where
  pub mark : List ℕ
  pub opening : List ℕ
  pub before : List ℕ
  pub text : List ℕ
  pub behind : List ℕ
  pub parts : bytes ≡ mark ++ (opening ++ (before ++ (text ++ behind)))
  pub is_mark : IsMark mark
  pub is_opening : (opening ≡ [])
      ⊎ ((space : List ℕ) × (declared : List ℕ) × (opening ≡ space ++ declared) × InClass White space × IsPiece declaration declared)
  pub misc_before : IsMisc before
  pub is_root : IsElement (λ start inside. IsContent 63 root.inner start inside) (length mark + length opening + length before) root.at root.tag root.inner text
  pub misc_behind : IsMisc behind

-- ---- the parts of an element that the checks use

-- the elements of a name directly in a content
abbrev pub named_in : List ℕ → Content → List Node
named_in name nothing = []
named_in name (letter b more) = named_in name more
named_in name (remark more) = named_in name more
named_in name (element at tag inner more) =
    if bytes_eq tag.name name then record { at = at; tag = tag; inner = inner } ∷ named_in name more else named_in name more

-- a content that holds neither an element nor a comment
abbrev pub text_of : Content → Option (List ℕ)
text_of nothing = Some []
text_of (letter b more) = option_map (λ (text : List ℕ). b ∷ text) (text_of more)
text_of (remark more) = None
text_of (element at tag inner more) = None

abbrev pub node_asks : Asks Node
node_asks = record {
  name = λ node. node.tag.name;
  row = λ node. record { at = node.at; label = value_of (codes "t") node.tag.attributes; text = text_of node.inner };
  children = λ name node. named_in name node.inner;
}
