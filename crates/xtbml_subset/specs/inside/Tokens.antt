use Rattle.xtbml_subset.specs.declared.token.Tag.{Tag as TokenTag}
use Rattle.xtbml_subset.specs.declared.token.Token.{Token}
use Rattle.xtbml_subset.specs.declared.token.Token.TheVariants as tokens
use Rattle.xtbml_subset.specs.Pieces.{Tag, Piece, byte, comment, declaration, start, whole, finish}
use Rattle.xtbml_subset.specs.inside.Reading.{attributes_at}

-- the tag that the reader keeps as its name and the bytes after the name
abbrev pub tag_of : TokenTag → Tag
tag_of tag = record { name = tag.name.now; attributes = (attributes_at tag.attributes.now).0 }

abbrev pub piece_of : Token → Piece
piece_of (tokens.Byte b) = byte b
piece_of tokens.Comment = comment
piece_of tokens.Declaration = declaration
piece_of (tokens.Start tag) = start (tag_of tag)
piece_of (tokens.Whole tag) = whole (tag_of tag)
piece_of (tokens.End name) = finish name.now
