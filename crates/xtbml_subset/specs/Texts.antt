-- Values and texts.
use Rattle.std.specs.Prelude.{ℕ, if◌then◌else◌, List, [], ◌∷◌, reverse, Option, None, Some}
use Rattle.std.specs.Str.{bytes_eq}
use Rattle.xtbml_subset.specs.declared.class.Class.TheVariants.{White}
use Rattle.xtbml_subset.specs.Classes.{after}

infixl 10 ◌>>=◌
abbrev pub ◌>>=◌ : {A B : Type 0} → Option A → (A → Option B) → Option B
None >>= f = None
(Some x) >>= f = f x

-- the value of the first attribute of a name
abbrev pub value_of : List ℕ → List (List ℕ × List ℕ) → Option (List ℕ)
value_of name [] = None
value_of name (attribute ∷ attributes) = if bytes_eq attribute.0 name then Some attribute.1 else value_of name attributes

-- without white space at both ends
unfoldable pub trimmed : List ℕ → List ℕ
trimmed bytes = reverse (after White (reverse (after White bytes)))
