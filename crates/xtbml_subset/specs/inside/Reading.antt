-- What a reader finds at the start of the bytes, and the bytes after it.
use Rattle.std.specs.Prelude.{ℕ, zero, suc, ◌-◌, if◌then◌else◌, ◌==◌, List, [], ◌∷◌, length, Option, None, Some}
use Rattle.xtbml_subset.specs.declared.class.Class.{Class}
use Rattle.xtbml_subset.specs.declared.class.Class.TheVariants.{White, Name, DoubleQuoted, SingleQuoted, Declared}
use Rattle.xtbml_subset.specs.Classes.{is_in, starts_name, front, after}
use Rattle.xtbml_subset.specs.Texts.{◌>>=◌}
use Rattle.xtbml_subset.specs.Pieces.{Tag, Piece, byte, comment, declaration, start, whole, finish}
use Rattle.std.specs.Option.{option_map_or}

abbrev pub byte_at : ℕ → List ℕ → Option (List ℕ)
byte_at b [] = None
byte_at b (c ∷ bytes) = if c == b then Some bytes else None

-- the bytes from the first one of a value on
abbrev pub from_byte : ℕ → List ℕ → List ℕ
from_byte b [] = []
from_byte b (c ∷ bytes) = if c == b then c ∷ bytes else from_byte b bytes

-- at least one byte of white space
unfoldable pub spaces_at : List ℕ → Option (List ℕ)
spaces_at [] = None
spaces_at (b ∷ bytes) = if is_in White b then Some (after White bytes) else None

unfoldable pub name_at : List ℕ → Option (List ℕ × List ℕ)
name_at [] = None
name_at (b ∷ bytes) = if starts_name b then Some (front Name (b ∷ bytes), after Name (b ∷ bytes)) else None

unfoldable pub closed_at : ℕ → Class → List ℕ → Option (List ℕ × List ℕ)
closed_at quote class bytes = byte_at quote (after class bytes) >>= λ rest. Some (front class bytes, rest)

unfoldable pub quoted_at : List ℕ → Option (List ℕ × List ℕ)
quoted_at [] = None
quoted_at (b ∷ bytes) =
    if b == 34 then closed_at 34 DoubleQuoted bytes else (if b == 39 then closed_at 39 SingleQuoted bytes else None)

-- a name and a value
abbrev pub Attribute : Type 0
Attribute = List ℕ × List ℕ

unfoldable pub attribute_at : List ℕ → Option (Attribute × List ℕ)
attribute_at bytes = do
  space ← spaces_at bytes
  name ← name_at space
  sign ← byte_at 61 (after White name.1)
  value ← quoted_at (after White sign)
  Some ((name.0, value.0), value.1)

abbrev pub with_attribute : Attribute → List Attribute × List ℕ → List Attribute × List ℕ
with_attribute a read = (a ∷ read.0, read.1)

-- the attributes after the next k bytes, as many as there are, and the bytes after them
unfoldable pub attributes_from : ℕ → List ℕ → List Attribute × List ℕ
attributes_from k [] = ([], [])
attributes_from (suc k) (b ∷ bytes) = attributes_from k bytes
attributes_from zero (b ∷ bytes) =
    option_map_or (λ x. with_attribute x.0 (attributes_from (length bytes - length x.1) bytes)) (attribute_at (b ∷ bytes)) ([], b ∷ bytes)

abbrev pub attributes_at : List ℕ → List Attribute × List ℕ
attributes_at bytes = attributes_from 0 bytes

abbrev pub first_of : {A : Type 0} → Option A → Option A → Option A
first_of None other = other
first_of (Some x) other = Some x

-- the end of a comment
abbrev pub dashes_at : List ℕ → Option (List ℕ)
dashes_at bytes = byte_at 45 bytes >>= (λ rest. byte_at 45 rest) >>= (λ rest. byte_at 62 rest)

abbrev pub comment_end_at : List ℕ → Option (List ℕ)
comment_end_at [] = None
comment_end_at (b ∷ bytes) = first_of (dashes_at (b ∷ bytes)) (comment_end_at bytes)

unfoldable pub comment_at : List ℕ → Option (Piece × List ℕ)
comment_at bytes = do
  first ← byte_at 45 bytes
  second ← byte_at 45 first
  rest ← comment_end_at second
  Some (comment, rest)

unfoldable pub declaration_at : List ℕ → Option (Piece × List ℕ)
declaration_at bytes = do
  x ← byte_at 120 bytes
  xm ← byte_at 109 x
  xml ← byte_at 108 xm
  space ← spaces_at xml
  mark ← byte_at 63 (after Declared space)
  rest ← byte_at 62 mark
  Some (declaration, rest)

unfoldable pub end_tag_at : List ℕ → Option (Piece × List ℕ)
end_tag_at bytes = do
  name ← name_at bytes
  rest ← byte_at 62 (after White name.1)
  Some (finish name.0, rest)

abbrev pub start_at : Tag → List ℕ → Option (Piece × List ℕ)
start_at tag bytes = byte_at 62 bytes >>= λ rest. Some (start tag, rest)

abbrev pub whole_at : Tag → List ℕ → Option (Piece × List ℕ)
whole_at tag bytes = byte_at 47 bytes >>= (λ rest. byte_at 62 rest) >>= λ rest. Some (whole tag, rest)

abbrev pub tag_end_at : List ℕ → List Attribute × List ℕ → Option (Piece × List ℕ)
tag_end_at name read =
    let tag : Tag = record { name = name; attributes = read.0 } in
    first_of (start_at tag (after White read.1)) (whole_at tag (after White read.1))

unfoldable pub tag_at : List ℕ → Option (Piece × List ℕ)
tag_at bytes = name_at bytes >>= λ name. tag_end_at name.0 (attributes_at name.1)

-- the piece after a `<`
unfoldable pub marked_at : List ℕ → Option (Piece × List ℕ)
marked_at [] = None
marked_at (b ∷ bytes) =
    if b == 33 then comment_at bytes else (if b == 63 then declaration_at bytes else (if b == 47 then end_tag_at bytes else tag_at (b ∷ bytes)))

-- the piece at the start, and the bytes after it
unfoldable pub piece_at : List ℕ → Option (Piece × List ℕ)
piece_at [] = None
piece_at (b ∷ bytes) = if b == 60 then marked_at bytes else Some (byte b, bytes)
