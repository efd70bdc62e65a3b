-- The bytes of which the parts of a document are made.
use Rattle.std.specs.Prelude.{◌≡◌, ℕ, Bool, true, ◌&&◌, ◌||◌, not, ◌==◌, nat_le, if◌then◌else◌, List, [], ◌∷◌}
use Rattle.xtbml_subset.specs.declared.class.Class.{Class}
use Rattle.xtbml_subset.specs.declared.class.Class.TheVariants.{White, Name, DoubleQuoted, SingleQuoted, Declared, Text}

abbrev pub is_between : ℕ → ℕ → ℕ → Bool
is_between low high b = nat_le low b && nat_le b high

-- an ASCII letter, `_`, or a byte from hexadecimal 80 on
abbrev pub starts_name : ℕ → Bool
starts_name b = is_between 65 90 b || is_between 97 122 b || b == 95 || nat_le 128 b

-- White: tab, line feed, carriage return, blank. Name: the bytes with which a name may begin, digits, `-`, `.`, `:`.
-- A quoted value has neither a quote of its own kind nor a `<`, a declaration no `?`, text no `<`.
abbrev pub is_in : Class → ℕ → Bool
is_in White b = b == 9 || b == 10 || b == 13 || b == 32
is_in Name b = starts_name b || is_between 48 57 b || b == 45 || b == 46 || b == 58
is_in DoubleQuoted b = not (b == 34) && not (b == 60)
is_in SingleQuoted b = not (b == 39) && not (b == 60)
is_in Declared b = not (b == 63)
is_in Text b = not (b == 60)

-- each byte is of the class
abbrev pub InClass : Class → List ℕ → Type 0
InClass class [] = Unit {0}
InClass class (b ∷ bytes) = (is_in class b ≡ true) × InClass class bytes

-- the bytes of a class at the start, and the bytes after these
abbrev pub front : Class → List ℕ → List ℕ
front class [] = []
front class (b ∷ bytes) = if is_in class b then b ∷ front class bytes else []

abbrev pub after : Class → List ℕ → List ℕ
after class [] = []
after class (b ∷ bytes) = if is_in class b then after class bytes else b ∷ bytes
