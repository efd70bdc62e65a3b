-- What is a part by the grammar is read again, whatever follows it.
use Rattle.xtbml_subset.proofs.Names.{◌≡◌, ℕ, Bool, true, false, eqb, ◌||◌, List, [], ◌∷◌, ◌++◌, Some, None, refl, sym, ap, subst, ◌∙◌, ◌⊎◌, inl, inr, append_assoc, eqb-true, eq-eqb, or_cases, cases_Bool, true≢false, Class, White, Name, DoubleQuoted, SingleQuoted, Text, is_in, starts_name, InClass, front, after, Attribute, IsSpace, IsTagName, IsQuoted, IsAttribute, spaces_at, name_at, closed_at, quoted_at, attribute_at}

-- the bytes are over, or go on with a byte that isn't of the class
abbrev pub Stops : Class → List ℕ → Type 0
Stops class [] = Unit {0}
Stops class (b ∷ rest) = is_in class b ≡ false

pub front_again : (class : Class) (text rest : List ℕ) → InClass class text → Stops class rest → front class (text ++ rest) ≡ text
front_again class [] [] h stops = refl
front_again class [] (b ∷ rest) h stops = rw stops refl
front_again class (b ∷ text) rest h stops =
    let more = front_again class text rest h.1 stops in
    let first = h.0 in
    rw (first, more) refl

pub after_again : (class : Class) (text rest : List ℕ) → InClass class text → Stops class rest → after class (text ++ rest) ≡ rest
after_again class [] [] h stops = refl
after_again class [] (b ∷ rest) h stops = rw stops refl
after_again class (b ∷ text) rest h stops =
    let more = after_again class text rest h.1 stops in
    let first = h.0 in
    rw (first, more) refl

-- white space is no part of a name
white_cases : (b : ℕ) → is_in White b ≡ true → (b ≡ 9) ⊎ ((b ≡ 10) ⊎ ((b ≡ 13) ⊎ (b ≡ 32)))
white_cases b h =
    elim (or_cases (eqb b 9 || eqb b 10 || eqb b 13) (eqb b 32) h) [
      | inr e ↦ inr (inr (inr (eqb-true b 32 e)))
      | inl k ↦
          elim (or_cases (eqb b 9 || eqb b 10) (eqb b 13) k) [
            | inr e ↦ inr (inr (inl (eqb-true b 13 e)))
            | inl m ↦
                elim (or_cases (eqb b 9) (eqb b 10) m) [
                  | inr e ↦ inr (inl (eqb-true b 10 e))
                  | inl e ↦ inl (eqb-true b 9 e)
                ]
          ]
    ]

-- what a test says of each byte of white space it says of all
pub at_white : (test : ℕ → Bool) → test 9 ≡ false → test 10 ≡ false → test 13 ≡ false → test 32 ≡ false → (b : ℕ) → is_in White b ≡ true → test b ≡ false
at_white test h9 h10 h13 h32 b h =
    elim (white_cases b h) [
      | inl e ↦ ap test e ∙ h9
      | inr k ↦
          elim k [
            | inl e ↦ ap test e ∙ h10
            | inr m ↦
                elim m [
                  | inl e ↦ ap test e ∙ h13
                  | inr e ↦ ap test e ∙ h32
                ]
          ]
    ]

-- white space is text
pub white_is_text : (b : ℕ) → is_in White b ≡ true → is_in Text b ≡ true
white_is_text b white = let other : eqb b 60 ≡ false = at_white (λ n. eqb n 60) refl refl refl refl b white in rw other refl

white_no_name : (b : ℕ) → is_in White b ≡ true → is_in Name b ≡ false
white_no_name b h = at_white (λ n. is_in Name n) refl refl refl refl b h

white_no_start : (b : ℕ) → is_in White b ≡ true → starts_name b ≡ false
white_no_start b h = at_white starts_name refl refl refl refl b h

start_no_white : (b : ℕ) → starts_name b ≡ true → is_in White b ≡ false
start_no_white b h =
    elim (cases_Bool (is_in White b)) [
      | inl w ↦ absurd (true≢false (sym h ∙ white_no_start b w))
      | inr w ↦ w
    ]

starts_in : (b : ℕ) → starts_name b ≡ true → is_in Name b ≡ true
starts_in b h = rw h refl

-- after white space comes something else
pub stops_white : (space : List ℕ) (b : ℕ) (rest : List ℕ) → InClass White space → is_in Name b ≡ false → Stops Name (space ++ b ∷ rest)
stops_white [] b rest h other = other
stops_white (w ∷ space) b rest h other = white_no_name w h.0

stops_name : (name rest : List ℕ) → IsTagName name → Stops White (name ++ rest)
stops_name [] rest h = absurd h
stops_name (b ∷ name) rest h = start_no_white b h.0

pub spaces_again : (space rest : List ℕ) → IsSpace space → Stops White rest → spaces_at (space ++ rest) ≡ Some rest
unfolding spaces_at
spaces_again [] rest h stops = absurd h
spaces_again (b ∷ space) rest h stops =
    let first = h.0 in
    let more = after_again White space rest h.1 stops in
    rw (first, more) refl

pub name_again : (name rest : List ℕ) → IsTagName name → Stops Name rest → name_at (name ++ rest) ≡ Some (name, rest)
unfolding name_at
name_again [] rest h stops = absurd h
name_again (b ∷ name) rest h stops =
    let first = h.0 in
    let front_is = front_again Name name rest h.1 stops in
    let after_is = after_again Name name rest h.1 stops in
    rw (first, front_is, after_is) refl

closed_again : (quote : ℕ) (class : Class) (value rest : List ℕ) → InClass class value → is_in class quote ≡ false
    → closed_at quote class (value ++ quote ∷ rest) ≡ Some (value, rest)
unfolding closed_at
closed_again quote class value rest h stops =
    let front_is = front_again class value (quote ∷ rest) h stops in
    let after_is = after_again class value (quote ∷ rest) h stops in
    let same = eq-eqb quote quote refl in
    rw (front_is, after_is, same) refl

quoted_rest : (quote : ℕ) (value rest : List ℕ) → (quote ∷ (value ++ quote ∷ [])) ++ rest ≡ quote ∷ (value ++ quote ∷ rest)
quoted_rest quote value rest = ap (λ (s : List ℕ). quote ∷ s) (append_assoc value (quote ∷ []) rest)

pub quoted_again : (text value rest : List ℕ) → IsQuoted text value → quoted_at (text ++ rest) ≡ Some (value, rest)
unfolding quoted_at
quoted_again text value rest (inl h) =
    let closed = closed_again 34 DoubleQuoted value rest h.1 refl in
    let whole : text ++ rest ≡ 34 ∷ (value ++ 34 ∷ rest) = ap (λ (s : List ℕ). s ++ rest) h.0 ∙ quoted_rest 34 value rest in
    ap quoted_at whole ∙ closed
quoted_again text value rest (inr h) =
    let closed = closed_again 39 SingleQuoted value rest h.1 refl in
    let whole : text ++ rest ≡ 39 ∷ (value ++ 39 ∷ rest) = ap (λ (s : List ℕ). s ++ rest) h.0 ∙ quoted_rest 39 value rest in
    ap quoted_at whole ∙ closed

stops_quoted : (text value rest : List ℕ) → IsQuoted text value → Stops White (text ++ rest)
stops_quoted text value rest (inl h) = subst (λ (s : List ℕ). Stops White (s ++ rest)) (sym h.0) refl
stops_quoted text value rest (inr h) = subst (λ (s : List ℕ). Stops White (s ++ rest)) (sym h.0) refl

regroup : (space name before after quoted rest : List ℕ)
    → (space ++ (name ++ (before ++ 61 ∷ (after ++ quoted)))) ++ rest ≡ space ++ (name ++ (before ++ 61 ∷ (after ++ (quoted ++ rest))))
regroup space name before after quoted rest = simp append_assoc

-- the parts of an attribute read one after the other
parts_again : (space name before behind quoted value rest : List ℕ) → IsSpace space → IsTagName name → InClass White before → InClass White behind → IsQuoted quoted value
    → attribute_at (space ++ (name ++ (before ++ 61 ∷ (behind ++ (quoted ++ rest))))) ≡ Some ((name, value), rest)
unfolding attribute_at
parts_again space name before behind quoted value rest is_space is_name white_before white_behind is_quoted =
    let tail : List ℕ = before ++ 61 ∷ (behind ++ (quoted ++ rest)) in
    let spaces = spaces_again space (name ++ tail) is_space (stops_name name tail is_name) in
    let named = name_again name tail is_name (stops_white before 61 (behind ++ (quoted ++ rest)) white_before refl) in
    let sign = after_again White before (61 ∷ (behind ++ (quoted ++ rest))) white_before refl in
    let value_first = after_again White behind (quoted ++ rest) white_behind (stops_quoted quoted value rest is_quoted) in
    let valued = quoted_again quoted value rest is_quoted in
    rw (spaces, named, sign, value_first, valued) refl

pub attribute_again : (text : List ℕ) (a : Attribute) (rest : List ℕ) → IsAttribute a text → attribute_at (text ++ rest) ≡ Some (a, rest)
attribute_again text a rest is =
    ap attribute_at (ap (λ (s : List ℕ). s ++ rest) is.parts ∙ regroup is.space a.0 is.before_sign is.after_sign is.quoted rest)
    ∙ parts_again is.space a.0 is.before_sign is.after_sign is.quoted a.1 rest is.is_space is.is_name is.white_before is.white_after is.is_quoted

-- no attribute stands in white space before a tag's end
pub no_attribute : (space : List ℕ) (b : ℕ) (rest : List ℕ) → InClass White space → is_in White b ≡ false → starts_name b ≡ false → attribute_at (space ++ b ∷ rest) ≡ None
unfolding attribute_at spaces_at name_at
no_attribute [] b rest h other no_start = rw other refl
no_attribute (w ∷ space) b rest h other no_start =
    let first = h.0 in
    let more = after_again White space (b ∷ rest) h.1 other in
    rw (first, more, no_start) refl

pub attribute_stops : (text : List ℕ) (a : Attribute) (rest : List ℕ) → IsAttribute a text → Stops Name (text ++ rest)
attribute_stops text a rest is = subst (λ (s : List ℕ). Stops Name (s ++ rest)) (sym is.parts) (space_first is.space (a.0 ++ (is.before_sign ++ 61 ∷ (is.after_sign ++ is.quoted))) rest is.is_space)
  where
    space_first : (space more rest : List ℕ) → IsSpace space → Stops Name ((space ++ more) ++ rest)
    space_first [] more rest h = absurd h
    space_first (w ∷ space) more rest h = white_no_name w h.0
