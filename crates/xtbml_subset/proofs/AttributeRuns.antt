-- Attributes read one after the other.
use Rattle.xtbml_subset.proofs.Names.{cond, ◌≡◌, ℕ, List, [], ◌∷◌, ◌++◌, length, Some, None, refl, ap, ◌∙◌, bytes_eq, value_of, Attribute, IsSpace, attribute_at, attributes_from, attributes_at, with_attribute}
use Rattle.xtbml_subset.proofs.Behind.{IsBehind, behind_count}
use Rattle.xtbml_subset.proofs.Lexing.{attribute_takes}

space_behind : (space more rest : List ℕ) → IsSpace space → IsBehind ((space ++ more) ++ rest) rest
space_behind [] more rest h = absurd h
space_behind (b ∷ space) more rest h = record { first = b; front = space ++ more; parts = refl }

pub attribute_behind : (bytes : List ℕ) (a : Attribute) (rest : List ℕ) → attribute_at bytes ≡ Some (a, rest) → IsBehind bytes rest
attribute_behind bytes a rest e =
    let t = attribute_takes bytes a.0 a.1 rest e in
    let s = space_behind t.2.space (a.0 ++ (t.2.before_sign ++ 61 ∷ (t.2.after_sign ++ t.2.quoted))) rest t.2.is_space in
    rw (t.1, t.2.parts) s

pub attributes_skip : (front rest : List ℕ) → attributes_from (length front) (front ++ rest) ≡ attributes_at rest
unfolding attributes_from
attributes_skip [] rest = refl
attributes_skip (b ∷ front) rest = attributes_skip front rest

step_at : (first : ℕ) (front : List ℕ) (a : Attribute) (rest : List ℕ) → attribute_at (first ∷ (front ++ rest)) ≡ Some (a, rest)
    → attributes_at (first ∷ (front ++ rest)) ≡ with_attribute a (attributes_at rest)
unfolding attributes_from
step_at first front a rest e =
    let count = behind_count front rest in
    let skipped = attributes_skip front rest in
    rw (e, count) (ap (with_attribute a) skipped)

pub attributes_step : (bytes : List ℕ) (a : Attribute) (rest : List ℕ) → attribute_at bytes ≡ Some (a, rest) → attributes_at bytes ≡ with_attribute a (attributes_at rest)
attributes_step bytes a rest e =
    let b = attribute_behind bytes a rest e in
    let at : attribute_at (b.first ∷ (b.front ++ rest)) ≡ Some (a, rest) = rw (← b.parts) e in
    ap attributes_at b.parts ∙ step_at b.first b.front a rest at

pub attributes_stop : (bytes : List ℕ) → attribute_at bytes ≡ None → attributes_at bytes ≡ ([], bytes)
unfolding attributes_from
attributes_stop [] e = refl
attributes_stop (b ∷ bytes) e = rw e refl

pub value_step : (name bytes : List ℕ) (a : Attribute) (rest : List ℕ) → attribute_at bytes ≡ Some (a, rest)
    → value_of name (attributes_at bytes).0 ≡ cond (bytes_eq a.0 name) (Some a.1) (value_of name (attributes_at rest).0)
value_step name bytes a rest e = ap (λ read. value_of name read.0) (attributes_step bytes a rest e)

pub value_stop : (name bytes : List ℕ) → attribute_at bytes ≡ None → value_of name (attributes_at bytes).0 ≡ None
value_stop name bytes e = ap (λ read. value_of name read.0) (attributes_stop bytes e)
