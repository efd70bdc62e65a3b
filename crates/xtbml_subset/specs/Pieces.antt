-- The pieces of a document, and the texts that each may have.
use Rattle.std.specs.Prelude.{◌≡◌, ◌≢◌, ℕ, true, ◌⊎◌, List, [], ◌∷◌, ◌++◌}
use Rattle.xtbml_subset.specs.declared.class.Class.TheVariants.{White, Name, DoubleQuoted, SingleQuoted, Declared, Text}
use Rattle.xtbml_subset.specs.Classes.{is_in, starts_name, InClass}

-- a name, and attributes: each a name and a value
pub record Tag : Type 0 where
  pub name : List ℕ
  pub attributes : List (List ℕ × List ℕ)

-- A byte other than `<`, a comment, a declaration, a start tag, the whole of an element that ends with `/>`,
-- or an end tag.
pub data Piece : Type 0 where
  byte : ℕ → Piece
  comment : Piece
  declaration : Piece
  start : Tag → Piece
  whole : Tag → Piece
  finish : List ℕ → Piece

-- the bytes are the texts of these, one after the other
abbrev pub AreSpelled : {A : Type 0} → (A → List ℕ → Type 0) → List A → List ℕ → Type 0
AreSpelled IsText [] bytes = bytes ≡ []
AreSpelled IsText (one ∷ more) bytes =
    (text : List ℕ) × (rest : List ℕ) × (bytes ≡ text ++ rest) × IsText one text × AreSpelled IsText more rest

-- white space, at least one byte of it
abbrev pub IsSpace : List ℕ → Type 0
IsSpace [] = ⊥
IsSpace (b ∷ bytes) = (is_in White b ≡ true) × InClass White bytes

abbrev pub IsTagName : List ℕ → Type 0
IsTagName [] = ⊥
IsTagName (b ∷ bytes) = (starts_name b ≡ true) × InClass Name bytes

-- white space, a name, `=` with or without white space around it, and a quoted value
pub record IsAttribute (attribute : List ℕ × List ℕ) (text : List ℕ) : Type 0 where
  pub space : List ℕ
  pub before_sign : List ℕ
  pub after_sign : List ℕ
  pub quoted : List ℕ
  pub parts : text ≡ space ++ (attribute.0 ++ (before_sign ++ 61 ∷ (after_sign ++ quoted)))
  pub is_space : IsSpace space
  pub is_name : IsTagName attribute.0
  pub white_before : InClass White before_sign
  pub white_after : InClass White after_sign
  pub is_quoted : ((quoted ≡ 34 ∷ (attribute.1 ++ 34 ∷ [])) × InClass DoubleQuoted attribute.1)
      ⊎ ((quoted ≡ 39 ∷ (attribute.1 ++ 39 ∷ [])) × InClass SingleQuoted attribute.1)

-- `<`, a name, attributes, possibly white space, and the ending
pub record IsTag (text : List ℕ) (tag : Tag) (ending : List ℕ) : Type 0 where
  pub attributes : List ℕ
  pub space : List ℕ
  pub parts : text ≡ 60 ∷ (tag.name ++ (attributes ++ (space ++ ending)))
  pub is_name : IsTagName tag.name
  pub are_attributes : AreSpelled IsAttribute tag.attributes attributes
  pub white : InClass White space

-- `</`, the name, possibly white space, `>`
pub record IsEndTag (text name : List ℕ) : Type 0 where
  pub space : List ℕ
  pub parts : text ≡ 60 ∷ 47 ∷ (name ++ (space ++ 62 ∷ []))
  pub is_name : IsTagName name
  pub white : InClass White space

-- `-->` is at the end of the bytes and nowhere before
abbrev pub EndsByDashes : List ℕ → Type 0
EndsByDashes [] = ⊥
EndsByDashes (b ∷ bytes) =
    (b ∷ bytes ≡ 45 ∷ 45 ∷ 62 ∷ []) ⊎ (((rest : List ℕ) → b ∷ bytes ≢ 45 ∷ 45 ∷ 62 ∷ rest) × EndsByDashes bytes)

-- `<?xml`, white space, bytes without `?`, and `?>`
pub record IsDeclaration (text : List ℕ) : Type 0 where
  pub space : List ℕ
  pub inside : List ℕ
  pub parts : text ≡ 60 ∷ 63 ∷ 120 ∷ 109 ∷ 108 ∷ (space ++ (inside ++ 63 ∷ 62 ∷ []))
  pub is_space : IsSpace space
  pub declared : InClass Declared inside

abbrev pub IsPiece : Piece → List ℕ → Type 0
IsPiece (byte b) text = (text ≡ b ∷ []) × (is_in Text b ≡ true)
IsPiece comment text = (more : List ℕ) × (text ≡ 60 ∷ 33 ∷ 45 ∷ 45 ∷ more) × EndsByDashes more
IsPiece declaration text = IsDeclaration text
IsPiece (start tag) text = IsTag text tag (62 ∷ [])
IsPiece (whole tag) text = IsTag text tag (47 ∷ 62 ∷ [])
IsPiece (finish name) text = IsEndTag text name

-- a byte of white space
abbrev pub IsWhiteByte : Piece → Type 0
IsWhiteByte (byte b) = is_in White b ≡ true
IsWhiteByte _ = ⊥

-- EF BB BF, or nothing
abbrev pub IsMark : List ℕ → Type 0
IsMark [] = Unit {0}
IsMark (b ∷ bytes) = b ∷ bytes ≡ 239 ∷ 187 ∷ 191 ∷ []
