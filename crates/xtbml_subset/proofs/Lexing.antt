-- What the readers of the small parts take is as the grammar has it.
use Rattle.xtbml_subset.proofs.Names.{◌≡◌, ℕ, true, cond, eqb, List, [], ◌∷◌, ◌++◌, Some, None, refl, sym, ap, subst, ◌∙◌, inl, inr, append_assoc, eqb-true, Class, White, Name, DoubleQuoted, SingleQuoted, is_in, starts_name, InClass, front, after, Attribute, IsSpace, IsTagName, IsQuoted, IsAttribute, byte_at, spaces_at, name_at, closed_at, quoted_at, attribute_at, ◌>>=◌}
use Rattle.xtbml_subset.proofs.Options.{bind_some, chosen, some_is, pair_is}
use Rattle.xtbml_subset.proofs.Runs.{front-after, front_in}

pub byte_takes : (b : ℕ) (bytes rest : List ℕ) → byte_at b bytes ≡ Some rest → bytes ≡ b ∷ rest
byte_takes b [] rest e = absurd cc
byte_takes b (c ∷ bytes) rest e =
    elim (chosen (eqb c b) (Some bytes) None (Some rest) e) [
      | inl h ↦ let same : c ≡ b = eqb-true c b h.0 in let more : bytes ≡ rest = some_is bytes rest h.1 in cc
      | inr h ↦ absurd (let no = h.1 in cc)
    ]

pub spaces_takes : (bytes rest : List ℕ) → spaces_at bytes ≡ Some rest → (space : List ℕ) × (bytes ≡ space ++ rest) × IsSpace space
unfolding spaces_at
spaces_takes [] rest e = absurd cc
spaces_takes (b ∷ bytes) rest e =
    elim (chosen (is_in White b) (Some (after White bytes)) None (Some rest) e) [
      | inl h ↦
          let more : after White bytes ≡ rest = some_is (after White bytes) rest h.1 in
          let parts : b ∷ bytes ≡ (b ∷ front White bytes) ++ rest = rw (← more) (ap (λ (s : List ℕ). b ∷ s) (front-after White bytes)) in
          (b ∷ front White bytes, parts, (h.0, front_in White bytes))
      | inr h ↦ absurd (let no = h.1 in cc)
    ]

starts_in : (b : ℕ) → starts_name b ≡ true → is_in Name b ≡ true
starts_in b h = rw h refl

pub name_takes : (bytes name rest : List ℕ) → name_at bytes ≡ Some (name, rest) → (bytes ≡ name ++ rest) × IsTagName name
unfolding name_at
name_takes [] name rest e = absurd cc
name_takes (b ∷ bytes) name rest e =
    elim (chosen (starts_name b) (Some (front Name (b ∷ bytes), after Name (b ∷ bytes))) None (Some (name, rest)) e) [
      | inl h ↦
          let parts = pair_is (front Name (b ∷ bytes)) name (after Name (b ∷ bytes)) rest h.1 in
          let first : front Name (b ∷ bytes) ≡ b ∷ front Name bytes = rw (starts_in b h.0) refl in
          let whole : b ∷ bytes ≡ name ++ rest = rw (← parts.0, ← parts.1) (front-after Name (b ∷ bytes)) in
          let is : IsTagName (b ∷ front Name bytes) = (h.0, front_in Name bytes) in
          (whole, subst IsTagName (sym first ∙ parts.0) is)
      | inr h ↦ absurd (let no = h.1 in cc)
    ]

closed_takes : (quote : ℕ) (class : Class) (bytes value rest : List ℕ) → closed_at quote class bytes ≡ Some (value, rest)
    → (bytes ≡ value ++ quote ∷ rest) × InClass class value
unfolding closed_at
closed_takes quote class bytes value rest e =
    let b = bind_some (byte_at quote (after class bytes)) (λ more. Some (front class bytes, more)) (value, rest) e in
    let parts = pair_is (front class bytes) value b.0 rest b.2 in
    let end : after class bytes ≡ quote ∷ rest = byte_takes quote (after class bytes) b.0 b.1 ∙ ap (λ (s : List ℕ). quote ∷ s) parts.1 in
    let whole : bytes ≡ value ++ quote ∷ rest = front-after class bytes ∙ ap (λ (s : List ℕ). front class bytes ++ s) end ∙ ap (λ (s : List ℕ). s ++ quote ∷ rest) parts.0 in
    (whole, subst (InClass class) parts.0 (front_in class bytes))

quoted_text : (quote : ℕ) (value rest : List ℕ) → quote ∷ (value ++ quote ∷ rest) ≡ (quote ∷ (value ++ quote ∷ [])) ++ rest
quoted_text quote value rest = ap (λ (s : List ℕ). quote ∷ s) (sym (append_assoc value (quote ∷ []) rest))

pub quoted_takes : (bytes value rest : List ℕ) → quoted_at bytes ≡ Some (value, rest) → (text : List ℕ) × (bytes ≡ text ++ rest) × IsQuoted text value
unfolding quoted_at
quoted_takes [] value rest e = absurd cc
quoted_takes (b ∷ bytes) value rest e =
    elim (chosen (eqb b 34) (closed_at 34 DoubleQuoted bytes) (cond (eqb b 39) (closed_at 39 SingleQuoted bytes) None) (Some (value, rest)) e) [
      | inl h ↦
          let same : b ≡ 34 = eqb-true b 34 h.0 in
          let t = closed_takes 34 DoubleQuoted bytes value rest h.1 in
          (34 ∷ (value ++ 34 ∷ []), rw (same, t.0) (quoted_text 34 value rest), inl (refl, t.1))
      | inr h ↦
          elim (chosen (eqb b 39) (closed_at 39 SingleQuoted bytes) None (Some (value, rest)) h.1) [
            | inl k ↦
                let same : b ≡ 39 = eqb-true b 39 k.0 in
                let t = closed_takes 39 SingleQuoted bytes value rest k.1 in
                (39 ∷ (value ++ 39 ∷ []), rw (same, t.0) (quoted_text 39 value rest), inr (refl, t.1))
            | inr k ↦ absurd (let no = k.1 in cc)
          ]
    ]

regroup : (space name before after quoted rest : List ℕ)
    → space ++ (name ++ (before ++ 61 ∷ (after ++ (quoted ++ rest)))) ≡ (space ++ (name ++ (before ++ 61 ∷ (after ++ quoted)))) ++ rest
regroup space name before after quoted rest = sym (simp append_assoc)

pub attribute_takes : (bytes name value rest : List ℕ) → attribute_at bytes ≡ Some ((name, value), rest)
    → (text : List ℕ) × (bytes ≡ text ++ rest) × IsAttribute (name, value) text
unfolding attribute_at
attribute_takes bytes name value rest e =
    let s = bind_some (spaces_at bytes) (λ space. name_at space >>= λ n. byte_at 61 (after White n.1) >>= λ sign. quoted_at (after White sign) >>= λ v. Some ((n.0, v.0), v.1)) ((name, value), rest) e in
    let n = bind_some (name_at s.0) (λ n. byte_at 61 (after White n.1) >>= λ sign. quoted_at (after White sign) >>= λ v. Some ((n.0, v.0), v.1)) ((name, value), rest) s.2 in
    let g = bind_some (byte_at 61 (after White n.0.1)) (λ sign. quoted_at (after White sign) >>= λ v. Some ((n.0.0, v.0), v.1)) ((name, value), rest) n.2 in
    let v = bind_some (quoted_at (after White g.0)) (λ v. Some ((n.0.0, v.0), v.1)) ((name, value), rest) g.2 in
    let both = pair_is (n.0.0, v.0.0) (name, value) v.0.1 rest v.2 in
    let name_is : n.0.0 ≡ name = ap (λ (x : Attribute). x.0) both.0 in
    let value_is : v.0.0 ≡ value = ap (λ (x : Attribute). x.1) both.0 in
    let st = spaces_takes bytes s.0 s.1 in
    let nt = name_takes s.0 n.0.0 n.0.1 n.1 in
    let before = front-after White n.0.1 in
    let sign = byte_takes 61 (after White n.0.1) g.0 g.1 in
    let behind = front-after White g.0 in
    let qt = quoted_takes (after White g.0) v.0.0 v.0.1 v.1 in
    let b = front White n.0.1 in
    let a = front White g.0 in
    let tail : g.0 ≡ a ++ (qt.0 ++ rest) = behind ∙ ap (λ (t : List ℕ). a ++ t) (qt.1 ∙ ap (λ (t : List ℕ). qt.0 ++ t) both.1) in
    let middle : n.0.1 ≡ b ++ 61 ∷ (a ++ (qt.0 ++ rest)) = before ∙ ap (λ (t : List ℕ). b ++ t) (sign ∙ ap (λ (t : List ℕ). 61 ∷ t) tail) in
    let named : s.0 ≡ name ++ (b ++ 61 ∷ (a ++ (qt.0 ++ rest))) = nt.0 ∙ ap (λ (t : List ℕ). n.0.0 ++ t) middle ∙ ap (λ (t : List ℕ). t ++ (b ++ 61 ∷ (a ++ (qt.0 ++ rest)))) name_is in
    let whole : bytes ≡ st.0 ++ (name ++ (b ++ 61 ∷ (a ++ (qt.0 ++ rest)))) = st.1 ∙ ap (λ (t : List ℕ). st.0 ++ t) named in (
      st.0 ++ (name ++ (b ++ 61 ∷ (a ++ qt.0))),
      whole ∙ regroup st.0 name b a qt.0 rest,
      record {
        space = st.0;
        before_sign = b;
        after_sign = a;
        quoted = qt.0;
        parts = refl;
        is_space = st.2;
        is_name = subst IsTagName name_is nt.1;
        white_before = front_in White n.0.1;
        white_after = front_in White g.0;
        is_quoted = subst (IsQuoted qt.0) value_is qt.2;
      },
    )
