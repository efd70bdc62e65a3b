-- What is a piece by the grammar is read as this piece, whatever follows it.
use Rattle.xtbml_subset.proofs.Names.{◌≡◌, ◌≢◌, ℕ, ◌≤◌, Bool, true, false, cond, eqb, List, [], ◌∷◌, ◌++◌, length, Option, Some, None, refl, sym, ap, subst, ◌∙◌, inl, inr, append_assoc, arith, eqb-true, true≢false, cases_Bool, not-true, White, Name, Declared, Text, is_in, starts_name, InClass, after, Attribute, Tag, Piece, byte, comment, declaration, start, whole, finish, IsSpace, IsTagName, AreAttributes, EndsByDashes, IsPiece, spaces_at, attribute_at, attributes_at, with_attribute, first_of, dashes_at, comment_end_at, comment_at, declaration_at, end_tag_at, tag_at, marked_at, piece_at}
use Rattle.xtbml_subset.proofs.AttributeRuns.{attributes_step, attributes_stop}
use Rattle.xtbml_subset.proofs.PieceReading.{dashes_take}
use Rattle.xtbml_subset.proofs.LexAgain.{Stops, after_again, stops_white, name_again, attribute_again, attribute_stops, no_attribute}

-- ---- attributes and tags

pub attributes_again : (text : List ℕ) (attributes : List Attribute) (rest : List ℕ) → AreAttributes text attributes → attribute_at rest ≡ None
    → attributes_at (text ++ rest) ≡ (attributes, rest)
attributes_again text [] rest are none = subst (λ (t : List ℕ). attributes_at (t ++ rest) ≡ ([], rest)) (sym are) (attributes_stop rest none)
attributes_again text (a ∷ attributes) rest are none =
    let first = are.0 in
    let more = are.1 in
    let parts : text ++ rest ≡ first ++ (more ++ rest) = ap (λ (t : List ℕ). t ++ rest) are.2 ∙ append_assoc first more rest in
    let one : attribute_at (first ++ (more ++ rest)) ≡ Some (a, more ++ rest) = attribute_again first a (more ++ rest) are.3 in
    let others : attributes_at (more ++ rest) ≡ (attributes, rest) = attributes_again more attributes rest are.4 none in
    ap attributes_at parts ∙ attributes_step (first ++ (more ++ rest)) a (more ++ rest) one ∙ ap (with_attribute a) others

attributes_stop_name : (text : List ℕ) (attributes : List Attribute) (space : List ℕ) (b : ℕ) (rest : List ℕ) → AreAttributes text attributes → InClass White space
    → is_in Name b ≡ false → Stops Name (text ++ (space ++ b ∷ rest))
attributes_stop_name text [] space b rest are white other = subst (λ (t : List ℕ). Stops Name (t ++ (space ++ b ∷ rest))) (sym are) (stops_white space b rest white other)
attributes_stop_name text (a ∷ attributes) space b rest are white other =
    let parts : text ++ (space ++ b ∷ rest) ≡ are.0 ++ (are.1 ++ (space ++ b ∷ rest)) = ap (λ (t : List ℕ). t ++ (space ++ b ∷ rest)) are.2 ∙ append_assoc are.0 are.1 (space ++ b ∷ rest) in
    subst (Stops Name) (sym parts) (attribute_stops are.0 a (are.1 ++ (space ++ b ∷ rest)) are.3)

start_again : (tag : Tag) (text space rest : List ℕ) → IsTagName tag.name → AreAttributes text tag.attributes → InClass White space
    → tag_at (tag.name ++ (text ++ (space ++ 62 ∷ rest))) ≡ Some (start tag, rest)
unfolding tag_at
start_again tag text space rest is_name are white =
    let named = name_again tag.name (text ++ (space ++ 62 ∷ rest)) is_name (attributes_stop_name text tag.attributes space 62 rest are white refl) in
    let read = attributes_again text tag.attributes (space ++ 62 ∷ rest) are (no_attribute space 62 rest white refl refl) in
    let end = after_again White space (62 ∷ rest) white refl in
    rw (named, read, end) refl

whole_again : (tag : Tag) (text space rest : List ℕ) → IsTagName tag.name → AreAttributes text tag.attributes → InClass White space
    → tag_at (tag.name ++ (text ++ (space ++ 47 ∷ 62 ∷ rest))) ≡ Some (whole tag, rest)
unfolding tag_at
whole_again tag text space rest is_name are white =
    let named = name_again tag.name (text ++ (space ++ 47 ∷ 62 ∷ rest)) is_name (attributes_stop_name text tag.attributes space 47 (62 ∷ rest) are white refl) in
    let read = attributes_again text tag.attributes (space ++ 47 ∷ 62 ∷ rest) are (no_attribute space 47 (62 ∷ rest) white refl refl) in
    let end = after_again White space (47 ∷ 62 ∷ rest) white refl in
    rw (named, read, end) refl

-- ---- end tags

end_again : (name space rest : List ℕ) → IsTagName name → InClass White space → end_tag_at (name ++ (space ++ 62 ∷ rest)) ≡ Some (finish name, rest)
unfolding end_tag_at
end_again name space rest is_name white =
    let named = name_again name (space ++ 62 ∷ rest) is_name (stops_white space 62 rest white refl) in
    let end = after_again White space (62 ∷ rest) white refl in
    rw (named, end) refl

-- ---- comments

three_long : (text : List ℕ) → EndsByDashes text → 3 ≤ length text
three_long [] ends = absurd ends
three_long (b ∷ text) (inl e) = omega (arith, ap (λ (t : List ℕ). length t) e)
three_long (b ∷ text) (inr h) = let longer : 3 ≤ length text = three_long text h.1 in omega arith

heads : (a b c x y z : ℕ) (s t : List ℕ) → a ∷ b ∷ c ∷ s ≡ x ∷ y ∷ z ∷ t → (a ≡ x) × (b ≡ y) × (c ≡ z)
heads a b c x y z s t e = (cc, cc, cc)

no_dashes_ahead : (text rest : List ℕ) → 3 ≤ length text → ((more : List ℕ) → text ≢ 45 ∷ 45 ∷ 62 ∷ more) → dashes_at (text ++ rest) ≡ None
no_dashes_ahead [] rest long never = absurd (omega arith)
no_dashes_ahead (a ∷ []) rest long never = absurd (omega arith)
no_dashes_ahead (a ∷ b ∷ []) rest long never = absurd (omega arith)
no_dashes_ahead (a ∷ b ∷ c ∷ text) rest long never =
    let P : Option (List ℕ) → Type 0 = λ o. dashes_at (a ∷ b ∷ c ∷ (text ++ rest)) ≡ o → dashes_at (a ∷ b ∷ c ∷ (text ++ rest)) ≡ None in
    let both : P (dashes_at (a ∷ b ∷ c ∷ (text ++ rest))) = elim (dashes_at (a ∷ b ∷ c ∷ (text ++ rest))) as P [
      | None ↦ λ e. e
      | Some x ↦ λ e.
          let same = heads a b c 45 45 62 (text ++ rest) x (dashes_take (a ∷ b ∷ c ∷ (text ++ rest)) x e) in
          let is : a ∷ b ∷ c ∷ text ≡ 45 ∷ 45 ∷ 62 ∷ text = (let first = same.0 in let second = same.1 in let third = same.2 in cc) in
          absurd (never text is)
    ] in
    both refl

comment_end_again : (text rest : List ℕ) → EndsByDashes text → comment_end_at (text ++ rest) ≡ Some rest
comment_end_again [] rest ends = absurd ends
comment_end_again (b ∷ text) rest (inl e) = subst (λ (t : List ℕ). comment_end_at (t ++ rest) ≡ Some rest) (sym e) refl
comment_end_again (b ∷ text) rest (inr h) =
    let longer : 3 ≤ length text = three_long text h.1 in
    let none = no_dashes_ahead (b ∷ text) rest (omega arith) h.0 in
    let more = comment_end_again text rest h.1 in
    ap (λ (o : Option (List ℕ)). first_of o (comment_end_at (text ++ rest))) none ∙ more

comment_again : (text rest : List ℕ) → EndsByDashes text → comment_at (45 ∷ 45 ∷ (text ++ rest)) ≡ Some (comment, rest)
unfolding comment_at
comment_again text rest ends = rw (comment_end_again text rest ends) refl

-- ---- declarations

through_white : (space rest : List ℕ) → InClass White space → after White (space ++ rest) ≡ after White rest
through_white [] rest white = refl
through_white (b ∷ space) rest white =
    let first = white.0 in
    let more = through_white space rest white.1 in
    rw first more

spaces_through : (space rest : List ℕ) → IsSpace space → spaces_at (space ++ rest) ≡ Some (after White rest)
unfolding spaces_at
spaces_through [] rest is = absurd is
spaces_through (b ∷ space) rest is =
    let first = is.0 in
    let more = through_white space rest is.1 in
    rw (first, more) refl

declared_after : (inside rest : List ℕ) → InClass Declared inside → after Declared (after White (inside ++ 63 ∷ rest)) ≡ 63 ∷ rest
declared_after [] rest declared = refl
declared_after (b ∷ inside) rest declared =
    let P : Bool → Type 0 = λ t. after Declared (cond t (after White (inside ++ 63 ∷ rest)) (b ∷ (inside ++ 63 ∷ rest))) ≡ 63 ∷ rest in
    let both : P (is_in White b) = elim (is_in White b) as P [
      | true ↦ declared_after inside rest declared.1
      | false ↦ after_again Declared (b ∷ inside) (63 ∷ rest) declared refl
    ] in
    both

declaration_again : (space inside rest : List ℕ) → IsSpace space → InClass Declared inside
    → declaration_at (120 ∷ 109 ∷ 108 ∷ (space ++ (inside ++ 63 ∷ 62 ∷ rest))) ≡ Some (declaration, rest)
unfolding declaration_at
declaration_again space inside rest is_space declared =
    let spaces = spaces_through space (inside ++ 63 ∷ 62 ∷ rest) is_space in
    let end = declared_after inside (62 ∷ rest) declared in
    rw (spaces, end) refl

-- ---- all pieces

pub not_start : (b n : ℕ) → starts_name b ≡ true → starts_name n ≡ false → eqb b n ≡ false
not_start b n is other =
    elim (cases_Bool (eqb b n)) [
      | inl e ↦ absurd (true≢false (sym is ∙ ap starts_name (eqb-true b n e) ∙ other))
      | inr e ↦ e
    ]

marked_tag : (name rest : List ℕ) → IsTagName name → marked_at (name ++ rest) ≡ tag_at (name ++ rest)
unfolding marked_at
marked_tag [] rest is = absurd is
marked_tag (b ∷ name) rest is =
    let no_33 = not_start b 33 is.0 refl in
    let no_63 = not_start b 63 is.0 refl in
    let no_47 = not_start b 47 is.0 refl in
    rw (no_33, no_63, no_47) refl

text_is_no_mark : (b : ℕ) → is_in Text b ≡ true → eqb b 60 ≡ false
text_is_no_mark b is = not-true (eqb b 60) is

byte_again : (b : ℕ) (rest : List ℕ) → is_in Text b ≡ true → piece_at (b ∷ rest) ≡ Some (byte b, rest)
unfolding piece_at
byte_again b rest is = rw (text_is_no_mark b is) refl

mark_again : (bytes : List ℕ) → piece_at (60 ∷ bytes) ≡ marked_at bytes
unfolding piece_at
mark_again bytes = refl

marked_comment : (bytes : List ℕ) → marked_at (33 ∷ bytes) ≡ comment_at bytes
unfolding marked_at
marked_comment bytes = refl

marked_declaration : (bytes : List ℕ) → marked_at (63 ∷ bytes) ≡ declaration_at bytes
unfolding marked_at
marked_declaration bytes = refl

marked_end : (bytes : List ℕ) → marked_at (47 ∷ bytes) ≡ end_tag_at bytes
unfolding marked_at
marked_end bytes = refl

tag_regroup : (name attributes space ending rest : List ℕ)
    → (name ++ (attributes ++ (space ++ ending))) ++ rest ≡ name ++ (attributes ++ (space ++ (ending ++ rest)))
tag_regroup name attributes space ending rest = simp append_assoc

end_regroup : (name space ending rest : List ℕ) → (name ++ (space ++ ending)) ++ rest ≡ name ++ (space ++ (ending ++ rest))
end_regroup name space ending rest = simp append_assoc

pub piece_again : (piece : Piece) (text rest : List ℕ) → IsPiece piece text → piece_at (text ++ rest) ≡ Some (piece, rest)
piece_again (byte b) text rest is =
    ap (λ (t : List ℕ). piece_at (t ++ rest)) is.0 ∙ byte_again b rest is.1
piece_again comment text rest is =
    ap (λ (t : List ℕ). piece_at (t ++ rest)) is.1 ∙ mark_again (33 ∷ 45 ∷ 45 ∷ (is.0 ++ rest)) ∙ marked_comment (45 ∷ 45 ∷ (is.0 ++ rest)) ∙ comment_again is.0 rest is.2
piece_again declaration text rest is =
    let inside : (is.space ++ (is.inside ++ 63 ∷ 62 ∷ [])) ++ rest ≡ is.space ++ (is.inside ++ 63 ∷ 62 ∷ rest) = end_regroup is.space is.inside (63 ∷ 62 ∷ []) rest in
    ap (λ (t : List ℕ). piece_at (t ++ rest)) is.parts
    ∙ mark_again (63 ∷ 120 ∷ 109 ∷ 108 ∷ ((is.space ++ (is.inside ++ 63 ∷ 62 ∷ [])) ++ rest))
    ∙ marked_declaration (120 ∷ 109 ∷ 108 ∷ ((is.space ++ (is.inside ++ 63 ∷ 62 ∷ [])) ++ rest))
    ∙ ap (λ (t : List ℕ). declaration_at (120 ∷ 109 ∷ 108 ∷ t)) inside
    ∙ declaration_again is.space is.inside rest is.is_space is.declared
piece_again (start tag) text rest is =
    let inside = tag_regroup tag.name is.attributes is.space (62 ∷ []) rest in
    ap (λ (t : List ℕ). piece_at (t ++ rest)) is.parts
    ∙ mark_again ((tag.name ++ (is.attributes ++ (is.space ++ 62 ∷ []))) ++ rest)
    ∙ ap marked_at inside
    ∙ marked_tag tag.name (is.attributes ++ (is.space ++ 62 ∷ rest)) is.is_name
    ∙ start_again tag is.attributes is.space rest is.is_name is.are_attributes is.white
piece_again (whole tag) text rest is =
    let inside = tag_regroup tag.name is.attributes is.space (47 ∷ 62 ∷ []) rest in
    ap (λ (t : List ℕ). piece_at (t ++ rest)) is.parts
    ∙ mark_again ((tag.name ++ (is.attributes ++ (is.space ++ 47 ∷ 62 ∷ []))) ++ rest)
    ∙ ap marked_at inside
    ∙ marked_tag tag.name (is.attributes ++ (is.space ++ 47 ∷ 62 ∷ rest)) is.is_name
    ∙ whole_again tag is.attributes is.space rest is.is_name is.are_attributes is.white
piece_again (finish name) text rest is =
    let inside = end_regroup name is.space (62 ∷ []) rest in
    ap (λ (t : List ℕ). piece_at (t ++ rest)) is.parts
    ∙ mark_again (47 ∷ ((name ++ (is.space ++ 62 ∷ [])) ++ rest))
    ∙ marked_end ((name ++ (is.space ++ 62 ∷ [])) ++ rest)
    ∙ ap end_tag_at inside
    ∙ end_again name is.space rest is.is_name is.white
