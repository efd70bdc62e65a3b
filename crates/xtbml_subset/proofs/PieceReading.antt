-- A piece that is read is a piece of the grammar, and something stands before what is left.
use Rattle.xtbml_subset.proofs.Names.{◌≡◌, ◌≢◌, ℕ, zero, suc, ◌<◌, ◌≤◌, true, false, cond, eqb, List, [], ◌∷◌, ◌++◌, length, Option, Some, None, refl, sym, ap, subst, ◌∙◌, inl, inr, append_assoc, arith, eqb-true, not-true, White, Declared, Text, is_in, front, after, Attribute, Tag, Piece, byte, comment, declaration, start, whole, finish, IsTagName, AreAttributes, IsTag, IsEndTag, EndsByDashes, IsDeclaration, IsPiece, byte_at, spaces_at, name_at, attribute_at, attributes_from, attributes_at, with_attribute, dashes_at, comment_end_at, comment_at, declaration_at, end_tag_at, start_at, whole_at, tag_end_at, tag_at, marked_at, piece_at, ◌>>=◌}
use Rattle.xtbml_subset.proofs.Options.{bind_some, first_of_some, chosen, pair_is, some_pair}
use Rattle.xtbml_subset.proofs.Runs.{front-after, front_in}
use Rattle.xtbml_subset.proofs.Lexing.{byte_takes, spaces_takes, name_takes, attribute_takes}
use Rattle.xtbml_subset.proofs.Behind.{IsBehind, behind_shorter}
use Rattle.xtbml_subset.proofs.AttributeRuns.{attribute_behind, attributes_step, attributes_stop}

-- what was taken from the start of the bytes, as a piece
pub record TakesPiece (bytes : List ℕ) (piece : Piece) (rest : List ℕ) : Type 0 where
  pub text : List ℕ
  pub parts : bytes ≡ text ++ rest
  pub is_piece : IsPiece piece text

-- ---- comments

pub dashes_take : (bytes rest : List ℕ) → dashes_at bytes ≡ Some rest → bytes ≡ 45 ∷ 45 ∷ 62 ∷ rest
dashes_take bytes rest e =
    let b = bind_some (byte_at 45 bytes >>= (λ more. byte_at 45 more)) (λ more. byte_at 62 more) rest e in
    let a = bind_some (byte_at 45 bytes) (λ more. byte_at 45 more) b.0 b.1 in
    byte_takes 45 bytes a.0 a.1 ∙ ap (λ (s : List ℕ). 45 ∷ s) (byte_takes 45 a.0 b.0 a.2) ∙ ap (λ (s : List ℕ). 45 ∷ 45 ∷ s) (byte_takes 62 b.0 rest b.2)

no_dashes : (text rest : List ℕ) → dashes_at (text ++ rest) ≡ None → (more : List ℕ) → text ≢ 45 ∷ 45 ∷ 62 ∷ more
no_dashes text rest none more e =
    let found : dashes_at (text ++ rest) ≡ Some (more ++ rest) = rw e refl in
    absurd (let both : Some (more ++ rest) ≡ None = sym found ∙ none in cc)

pub comment_end_takes : (bytes rest : List ℕ) → comment_end_at bytes ≡ Some rest → (text : List ℕ) × (bytes ≡ text ++ rest) × EndsByDashes text
comment_end_takes [] rest e = absurd cc
comment_end_takes (b ∷ bytes) rest e =
    elim (first_of_some (dashes_at (b ∷ bytes)) (comment_end_at bytes) rest e) [
      | inl h ↦ (45 ∷ 45 ∷ 62 ∷ [], dashes_take (b ∷ bytes) rest h, inl refl)
      | inr h ↦
          let t = comment_end_takes bytes rest h.1 in
          let whole_is : b ∷ bytes ≡ (b ∷ t.0) ++ rest = ap (λ (s : List ℕ). b ∷ s) t.1 in
          let none : dashes_at ((b ∷ t.0) ++ rest) ≡ None = ap dashes_at (sym whole_is) ∙ h.0 in
          (b ∷ t.0, whole_is, inr (no_dashes (b ∷ t.0) rest none, t.2))
    ]

comment_takes : (bytes : List ℕ) (piece : Piece) (rest : List ℕ) → comment_at bytes ≡ Some (piece, rest) → TakesPiece (60 ∷ 33 ∷ bytes) piece rest
unfolding comment_at
comment_takes bytes piece rest e =
    let a = bind_some (byte_at 45 bytes) (λ first. byte_at 45 first >>= λ second. comment_end_at second >>= λ more. Some (comment, more)) (piece, rest) e in
    let b = bind_some (byte_at 45 a.0) (λ second. comment_end_at second >>= λ more. Some (comment, more)) (piece, rest) a.2 in
    let c = bind_some (comment_end_at b.0) (λ more. Some (comment, more)) (piece, rest) b.2 in
    let p = pair_is comment piece c.0 rest c.2 in
    let t = comment_end_takes b.0 c.0 c.1 in
    let start_is : bytes ≡ 45 ∷ 45 ∷ b.0 = byte_takes 45 bytes a.0 a.1 ∙ ap (λ (s : List ℕ). 45 ∷ s) (byte_takes 45 a.0 b.0 b.1) in
    let inside_is : b.0 ≡ t.0 ++ rest = t.1 ∙ ap (λ (s : List ℕ). t.0 ++ s) p.1 in
    let whole_is : 60 ∷ 33 ∷ bytes ≡ (60 ∷ 33 ∷ 45 ∷ 45 ∷ t.0) ++ rest = ap (λ (s : List ℕ). 60 ∷ 33 ∷ s) (start_is ∙ ap (λ (s : List ℕ). 45 ∷ 45 ∷ s) inside_is) in
    let is : IsPiece comment (60 ∷ 33 ∷ 45 ∷ 45 ∷ t.0) = (t.0, refl, t.2) in
    record { text = 60 ∷ 33 ∷ 45 ∷ 45 ∷ t.0; parts = whole_is; is_piece = subst (λ (q : Piece). IsPiece q (60 ∷ 33 ∷ 45 ∷ 45 ∷ t.0)) p.0 is }

-- ---- declarations

declaration_text : (space inside rest : List ℕ) → space ++ (inside ++ 63 ∷ 62 ∷ rest) ≡ (space ++ (inside ++ 63 ∷ 62 ∷ [])) ++ rest
declaration_text space inside rest = sym (simp append_assoc)

declaration_takes : (bytes : List ℕ) (piece : Piece) (rest : List ℕ) → declaration_at bytes ≡ Some (piece, rest) → TakesPiece (60 ∷ 63 ∷ bytes) piece rest
unfolding declaration_at
declaration_takes bytes piece rest e =
    let a = bind_some (byte_at 120 bytes) (λ x. byte_at 109 x >>= λ xm. byte_at 108 xm >>= λ xml. spaces_at xml >>= λ space. byte_at 63 (after Declared space) >>= λ mark. byte_at 62 mark >>= λ more. Some (declaration, more)) (piece, rest) e in
    let b = bind_some (byte_at 109 a.0) (λ xm. byte_at 108 xm >>= λ xml. spaces_at xml >>= λ space. byte_at 63 (after Declared space) >>= λ mark. byte_at 62 mark >>= λ more. Some (declaration, more)) (piece, rest) a.2 in
    let c = bind_some (byte_at 108 b.0) (λ xml. spaces_at xml >>= λ space. byte_at 63 (after Declared space) >>= λ mark. byte_at 62 mark >>= λ more. Some (declaration, more)) (piece, rest) b.2 in
    let d = bind_some (spaces_at c.0) (λ space. byte_at 63 (after Declared space) >>= λ mark. byte_at 62 mark >>= λ more. Some (declaration, more)) (piece, rest) c.2 in
    let f = bind_some (byte_at 63 (after Declared d.0)) (λ mark. byte_at 62 mark >>= λ more. Some (declaration, more)) (piece, rest) d.2 in
    let g = bind_some (byte_at 62 f.0) (λ more. Some (declaration, more)) (piece, rest) f.2 in
    let p = pair_is declaration piece g.0 rest g.2 in
    let s = spaces_takes c.0 d.0 d.1 in
    let i = front Declared d.0 in
    let xml_is : bytes ≡ 120 ∷ 109 ∷ 108 ∷ c.0 = byte_takes 120 bytes a.0 a.1 ∙ ap (λ (t : List ℕ). 120 ∷ t) (byte_takes 109 a.0 b.0 b.1) ∙ ap (λ (t : List ℕ). 120 ∷ 109 ∷ t) (byte_takes 108 b.0 c.0 c.1) in
    let end_is : after Declared d.0 ≡ 63 ∷ 62 ∷ rest = byte_takes 63 (after Declared d.0) f.0 f.1 ∙ ap (λ (t : List ℕ). 63 ∷ t) (byte_takes 62 f.0 g.0 g.1) ∙ ap (λ (t : List ℕ). 63 ∷ 62 ∷ t) p.1 in
    let inside_is : d.0 ≡ i ++ 63 ∷ 62 ∷ rest = front-after Declared d.0 ∙ ap (λ (t : List ℕ). i ++ t) end_is in
    let space_is : c.0 ≡ (s.0 ++ (i ++ 63 ∷ 62 ∷ [])) ++ rest = s.1 ∙ ap (λ (t : List ℕ). s.0 ++ t) inside_is ∙ declaration_text s.0 i rest in
    let whole_is : 60 ∷ 63 ∷ bytes ≡ (60 ∷ 63 ∷ 120 ∷ 109 ∷ 108 ∷ (s.0 ++ (i ++ 63 ∷ 62 ∷ []))) ++ rest = ap (λ (t : List ℕ). 60 ∷ 63 ∷ t) (xml_is ∙ ap (λ (t : List ℕ). 120 ∷ 109 ∷ 108 ∷ t) space_is) in
    let text : List ℕ = 60 ∷ 63 ∷ 120 ∷ 109 ∷ 108 ∷ (s.0 ++ (i ++ 63 ∷ 62 ∷ [])) in
    let is : IsDeclaration text = record { space = s.0; inside = i; parts = refl; is_space = s.2; declared = front_in Declared d.0 } in
    record { text = text; parts = whole_is; is_piece = subst (λ (q : Piece). IsPiece q text) p.0 is }

-- ---- end tags

end_text : (name space rest : List ℕ) → name ++ (space ++ 62 ∷ rest) ≡ (name ++ (space ++ 62 ∷ [])) ++ rest
end_text name space rest = sym (simp append_assoc)

end_tag_takes : (bytes : List ℕ) (piece : Piece) (rest : List ℕ) → end_tag_at bytes ≡ Some (piece, rest) → TakesPiece (60 ∷ 47 ∷ bytes) piece rest
unfolding end_tag_at
end_tag_takes bytes piece rest e =
    let n = bind_some (name_at bytes) (λ name. byte_at 62 (after White name.1) >>= λ more. Some (finish name.0, more)) (piece, rest) e in
    let c = bind_some (byte_at 62 (after White n.0.1)) (λ more. Some (finish n.0.0, more)) (piece, rest) n.2 in
    let p = pair_is (finish n.0.0) piece c.0 rest c.2 in
    let nt = name_takes bytes n.0.0 n.0.1 n.1 in
    let s = front White n.0.1 in
    let end_is : after White n.0.1 ≡ 62 ∷ rest = byte_takes 62 (after White n.0.1) c.0 c.1 ∙ ap (λ (t : List ℕ). 62 ∷ t) p.1 in
    let space_is : n.0.1 ≡ s ++ 62 ∷ rest = front-after White n.0.1 ∙ ap (λ (t : List ℕ). s ++ t) end_is in
    let name_is : bytes ≡ (n.0.0 ++ (s ++ 62 ∷ [])) ++ rest = nt.0 ∙ ap (λ (t : List ℕ). n.0.0 ++ t) space_is ∙ end_text n.0.0 s rest in
    let text : List ℕ = 60 ∷ 47 ∷ (n.0.0 ++ (s ++ 62 ∷ [])) in
    let is : IsEndTag text n.0.0 = record { space = s; parts = refl; is_name = nt.1; white = front_in White n.0.1 } in
    record { text = text; parts = ap (λ (t : List ℕ). 60 ∷ 47 ∷ t) name_is; is_piece = subst (λ (q : Piece). IsPiece q text) p.0 is }

-- ---- attributes and tags

-- the attributes that were read stand before what is left
pub record TakesAttributes (bytes : List ℕ) (read : List Attribute × List ℕ) : Type 0 where
  pub text : List ℕ
  pub parts : bytes ≡ text ++ read.1
  pub are_attributes : AreAttributes text read.0

more_attributes : (bytes : List ℕ) (a : Attribute) (rest : List ℕ) (read : List Attribute × List ℕ) → attribute_at bytes ≡ Some (a, rest) → TakesAttributes rest read
    → TakesAttributes bytes (with_attribute a read)
more_attributes bytes a rest read e t =
    let f = attribute_takes bytes a.0 a.1 rest e in
    let parts_are : bytes ≡ (f.0 ++ t.text) ++ read.1 = f.1 ∙ ap (λ (s : List ℕ). f.0 ++ s) t.parts ∙ sym (append_assoc f.0 t.text read.1) in
    record { text = f.0 ++ t.text; parts = parts_are; are_attributes = (f.0, t.text, refl, f.2, t.are_attributes) }

-- by the number of bytes that there are at most
attributes_take_upto : (n : ℕ) (bytes : List ℕ) → length bytes ≤ n → TakesAttributes bytes (attributes_at bytes)
unfolding attributes_from
attributes_take_upto zero [] le = record { text = []; parts = refl; are_attributes = refl }
attributes_take_upto zero (b ∷ bytes) le = absurd (omega arith)
attributes_take_upto (suc n) bytes le =
    let P : Option (Attribute × List ℕ) → Type 0 = λ o. attribute_at bytes ≡ o → TakesAttributes bytes (attributes_at bytes) in
    let both : P (attribute_at bytes) = elim (attribute_at bytes) as P [
      | None ↦ λ e. subst (TakesAttributes bytes) (sym (attributes_stop bytes e)) (record { text = []; parts = refl; are_attributes = refl })
      | Some x ↦ λ e.
          let shorter : length x.1 < length bytes = behind_shorter bytes x.1 (attribute_behind bytes x.0 x.1 e) in
          let more = more_attributes bytes x.0 x.1 (attributes_at x.1) e (attributes_take_upto n x.1 (omega arith)) in
          subst (TakesAttributes bytes) (sym (attributes_step bytes x.0 x.1 e)) more
    ] in
    both refl

pub attributes_take : (bytes : List ℕ) → TakesAttributes bytes (attributes_at bytes)
attributes_take bytes = attributes_take_upto (length bytes) bytes (omega arith)

tag_text : (name attributes space ending rest : List ℕ)
    → name ++ (attributes ++ (space ++ (ending ++ rest))) ≡ (name ++ (attributes ++ (space ++ ending))) ++ rest
tag_text name attributes space ending rest = sym (simp append_assoc)

tag_parts : (bytes name behind : List ℕ) (read : List Attribute × List ℕ) (ending rest : List ℕ) (piece : Piece)
    → bytes ≡ name ++ behind → IsTagName name → TakesAttributes behind read → after White read.1 ≡ ending ++ rest
    → ((text : List ℕ) → IsTag text (record { name = name; attributes = read.0 }) ending → IsPiece piece text)
    → TakesPiece (60 ∷ bytes) piece rest
tag_parts bytes name behind read ending rest piece named is_name taken end_is shows =
    let space = front White read.1 in
    let end : read.1 ≡ space ++ (ending ++ rest) = front-after White read.1 ∙ ap (λ (t : List ℕ). space ++ t) end_is in
    let behind_is : behind ≡ taken.text ++ (space ++ (ending ++ rest)) = taken.parts ∙ ap (λ (t : List ℕ). taken.text ++ t) end in
    let bytes_are : bytes ≡ (name ++ (taken.text ++ (space ++ ending))) ++ rest = named ∙ ap (λ (t : List ℕ). name ++ t) behind_is ∙ tag_text name taken.text space ending rest in
    let text : List ℕ = 60 ∷ (name ++ (taken.text ++ (space ++ ending))) in
    let is : IsTag text (record { name = name; attributes = read.0 }) ending = record {
      attributes = taken.text;
      space = space;
      parts = refl;
      is_name = is_name;
      are_attributes = taken.are_attributes;
      white = front_in White read.1;
    } in
    record { text = text; parts = ap (λ (t : List ℕ). 60 ∷ t) bytes_are; is_piece = shows text is }

tag_takes : (bytes : List ℕ) (piece : Piece) (rest : List ℕ) → tag_at bytes ≡ Some (piece, rest) → TakesPiece (60 ∷ bytes) piece rest
unfolding tag_at
tag_takes bytes piece rest e =
    let n = bind_some (name_at bytes) (λ name. tag_end_at name.0 (attributes_at name.1)) (piece, rest) e in
    let nt = name_takes bytes n.0.0 n.0.1 n.1 in
    let read : List Attribute × List ℕ = attributes_at n.0.1 in
    let taken = attributes_take n.0.1 in
    let tag : Tag = record { name = n.0.0; attributes = read.0 } in
    let end = after White read.1 in
    elim (first_of_some (start_at tag end) (whole_at tag end) (piece, rest) n.2) [
      | inl h ↦
          let b = bind_some (byte_at 62 end) (λ more. some_pair (start tag) more) (piece, rest) h in
          let p = pair_is (start tag) piece b.0 rest b.2 in
          let end_is : end ≡ (62 ∷ []) ++ rest = byte_takes 62 end b.0 b.1 ∙ ap (λ (t : List ℕ). 62 ∷ t) p.1 in
          tag_parts bytes n.0.0 n.0.1 read (62 ∷ []) rest piece nt.0 nt.1 taken end_is (λ text is. subst (λ (q : Piece). IsPiece q text) p.0 is)
      | inr h ↦
          let b = bind_some (byte_at 47 end >>= λ more. byte_at 62 more) (λ more. some_pair (whole tag) more) (piece, rest) h.1 in
          let a = bind_some (byte_at 47 end) (λ more. byte_at 62 more) b.0 b.1 in
          let p = pair_is (whole tag) piece b.0 rest b.2 in
          let end_is : end ≡ (47 ∷ 62 ∷ []) ++ rest = byte_takes 47 end a.0 a.1 ∙ ap (λ (t : List ℕ). 47 ∷ t) (byte_takes 62 a.0 b.0 a.2) ∙ ap (λ (t : List ℕ). 47 ∷ 62 ∷ t) p.1 in
          tag_parts bytes n.0.0 n.0.1 read (47 ∷ 62 ∷ []) rest piece nt.0 nt.1 taken end_is (λ text is. subst (λ (q : Piece). IsPiece q text) p.0 is)
    ]

-- ---- all pieces

marked_takes : (bytes : List ℕ) (piece : Piece) (rest : List ℕ) → marked_at bytes ≡ Some (piece, rest) → TakesPiece (60 ∷ bytes) piece rest
unfolding marked_at
marked_takes [] piece rest e = absurd cc
marked_takes (b ∷ bytes) piece rest e =
    elim (chosen (eqb b 33) (comment_at bytes) (cond (eqb b 63) (declaration_at bytes) (cond (eqb b 47) (end_tag_at bytes) (tag_at (b ∷ bytes)))) (Some (piece, rest)) e) [
      | inl h ↦ let same : b ≡ 33 = eqb-true b 33 h.0 in rw same (comment_takes bytes piece rest h.1)
      | inr h ↦
          elim (chosen (eqb b 63) (declaration_at bytes) (cond (eqb b 47) (end_tag_at bytes) (tag_at (b ∷ bytes))) (Some (piece, rest)) h.1) [
            | inl k ↦ let same : b ≡ 63 = eqb-true b 63 k.0 in rw same (declaration_takes bytes piece rest k.1)
            | inr k ↦
                elim (chosen (eqb b 47) (end_tag_at bytes) (tag_at (b ∷ bytes)) (Some (piece, rest)) k.1) [
                  | inl m ↦ let same : b ≡ 47 = eqb-true b 47 m.0 in rw same (end_tag_takes bytes piece rest m.1)
                  | inr m ↦ tag_takes (b ∷ bytes) piece rest m.1
                ]
          ]
    ]

pub piece_takes : (bytes : List ℕ) (piece : Piece) (rest : List ℕ) → piece_at bytes ≡ Some (piece, rest) → TakesPiece bytes piece rest
unfolding piece_at
piece_takes [] piece rest e = absurd cc
piece_takes (b ∷ bytes) piece rest e =
    elim (chosen (eqb b 60) (marked_at bytes) (Some (byte b, bytes)) (Some (piece, rest)) e) [
      | inl h ↦ let same : b ≡ 60 = eqb-true b 60 h.0 in rw same (marked_takes bytes piece rest h.1)
      | inr h ↦
          let p = pair_is (byte b) piece bytes rest h.1 in
          let is_text : is_in Text b ≡ true = rw h.0 refl in
          let is : IsPiece (byte b) (b ∷ []) = (refl, is_text) in
          record { text = b ∷ []; parts = ap (λ (t : List ℕ). b ∷ t) p.1; is_piece = subst (λ (q : Piece). IsPiece q (b ∷ [])) p.0 is }
    ]

begins : (text more rest : List ℕ) (first : ℕ) → text ≡ first ∷ more → IsBehind (text ++ rest) rest
begins text more rest first e = record { first = first; front = more; parts = ap (λ (t : List ℕ). t ++ rest) e }

piece_text_behind : (piece : Piece) (text rest : List ℕ) → IsPiece piece text → IsBehind (text ++ rest) rest
piece_text_behind (byte b) text rest is = begins text [] rest b is.0
piece_text_behind comment text rest is = begins text (33 ∷ 45 ∷ 45 ∷ is.0) rest 60 is.1
piece_text_behind declaration text rest is = begins text (63 ∷ 120 ∷ 109 ∷ 108 ∷ (is.space ++ (is.inside ++ 63 ∷ 62 ∷ []))) rest 60 is.parts
piece_text_behind (start tag) text rest is = begins text (tag.name ++ (is.attributes ++ (is.space ++ 62 ∷ []))) rest 60 is.parts
piece_text_behind (whole tag) text rest is = begins text (tag.name ++ (is.attributes ++ (is.space ++ 47 ∷ 62 ∷ []))) rest 60 is.parts
piece_text_behind (finish name) text rest is = begins text (47 ∷ (name ++ (is.space ++ 62 ∷ []))) rest 60 is.parts

pub piece_behind : (bytes : List ℕ) (piece : Piece) (rest : List ℕ) → piece_at bytes ≡ Some (piece, rest) → IsBehind bytes rest
piece_behind bytes piece rest e =
    let t = piece_takes bytes piece rest e in
    subst (λ (s : List ℕ). IsBehind s rest) (sym t.parts) (piece_text_behind piece t.text rest t.is_piece)

-- ---- runs of single bytes

pub piece_byte : (b : ℕ) (bytes : List ℕ) → is_in Text b ≡ true → piece_at (b ∷ bytes) ≡ Some (byte b, bytes)
unfolding piece_at
piece_byte b bytes is = let other : eqb b 60 ≡ false = not-true (eqb b 60) is in rw other refl
