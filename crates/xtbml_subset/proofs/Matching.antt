-- The elements that the search finds are those of the document.
use Rattle.xtbml_subset.proofs.Names.{◌≡◌, ℕ, zero, suc, ◌+◌, ◌-◌, Bool, true, false, cond, eqb, List, [], ◌∷◌, ◌++◌, length, Option, Some, None, refl, sym, ap, subst, ◌∙◌, ◌⊎◌, inl, inr, append_assoc, arith, codes, ne_eqb, and_left, length-append, bytes_eq, White, Text, is_in, starts_name, InClass, front, after, Tag, Piece, byte, comment, declaration, start, whole, finish, IsPiece, IsTagName, IsMark, Spell, byte_at, ◌>>=◌, value_of, Found, on, found, closed, is_wanted, is_hit, step_of, elements_at, children_at, text_at, Content, nothing, letter, remark, element, IsElement, IsContent, IsDocumentOpening, Node, IsDocument, named_in, option_map, text_of, node_row, row_of, after_mark}
use Rattle.xtbml_subset.proofs.Misc.{AreMisc, are_misc}
use Rattle.std.proofs.Math.Numerals.{add-one}
use Rattle.xtbml_subset.proofs.LexAgain.{white_is_text}
use Rattle.xtbml_subset.proofs.PieceAgain.{not_start, piece_again}
use Rattle.xtbml_subset.proofs.Searching.{elements_by}
use Rattle.xtbml_subset.proofs.Sounding.{splits_mark}

-- an element that was found is this node of the document
pub record HasContent (total : ℕ) (f : Found) (node : Node) : Type 0 where
  pub levels : ℕ
  pub inside : List ℕ
  pub closing : List ℕ
  pub more : List ℕ
  pub place : ℕ
  pub opens : f.is_open ≡ true
  pub rest_is : f.rest ≡ inside ++ (closing ++ more)
  pub is_content : IsContent levels node.inner place inside
  pub is_end : IsPiece (finish node.tag.name) closing
  pub place_is : place + length f.rest ≡ total

pub record Matches (total : ℕ) (f : Found) (node : Node) : Type 0 where
  pub at_is : total - length f.from ≡ node.at
  pub tag_is : f.tag ≡ node.tag
  pub content : ((f.is_open ≡ false) × (node.inner ≡ nothing)) ⊎ HasContent total f node

abbrev pub AllMatch : ℕ → List Found → List Node → Type 0
AllMatch total [] [] = Unit {0}
AllMatch total [] (node ∷ nodes) = ⊥
AllMatch total (f ∷ fs) [] = ⊥
AllMatch total (f ∷ fs) (node ∷ nodes) = Matches total f node × AllMatch total fs nodes

-- ---- pieces passed over

pass : (piece : Piece) (text rest : List ℕ) (depth next : ℕ) (wanted : Option (List ℕ)) → IsPiece piece text → on next ≡ step_of depth wanted piece
    → elements_at depth wanted (text ++ rest) ≡ elements_at next wanted rest
pass piece text rest depth next wanted is step = elements_by (text ++ rest) piece rest depth wanted (on next) (piece_again piece text rest is) step

hit_deep : (depth : ℕ) (wanted : Option (List ℕ)) (tag : Tag) → is_hit (suc depth) wanted tag ≡ false
hit_deep depth wanted tag = let apart : eqb (suc depth) 0 ≡ false = ne_eqb (suc depth) 0 (λ e. absurd (omega arith)) in and_left (eqb (suc depth) 0) (is_wanted wanted tag.name) apart

start_deep : (depth : ℕ) (wanted : Option (List ℕ)) (tag : Tag) → on (suc (suc depth)) ≡ step_of (suc depth) wanted (start tag)
start_deep depth wanted tag = let miss = hit_deep depth wanted tag in rw (miss, add-one) refl

whole_deep : (depth : ℕ) (wanted : Option (List ℕ)) (tag : Tag) → on (suc depth) ≡ step_of (suc depth) wanted (whole tag)
whole_deep depth wanted tag = let miss = hit_deep depth wanted tag in rw miss refl

three : (opening inside closing rest : List ℕ) → (opening ++ (inside ++ closing)) ++ rest ≡ opening ++ (inside ++ (closing ++ rest))
three opening inside closing rest = simp append_assoc

deep : (levels : ℕ) (content : Content) (at : ℕ) (bytes rest : List ℕ) (depth : ℕ) (wanted : Option (List ℕ)) → IsContent levels content at bytes
    → elements_at (suc depth) wanted (bytes ++ rest) ≡ elements_at (suc depth) wanted rest
deep levels nothing at bytes rest depth wanted is = ap (λ (s : List ℕ). elements_at (suc depth) wanted (s ++ rest)) is
deep levels (letter b more) at bytes rest depth wanted is =
    ap (λ (s : List ℕ). elements_at (suc depth) wanted (s ++ rest)) is.1
    ∙ pass (byte b) (b ∷ []) (is.0 ++ rest) (suc depth) (suc depth) wanted (refl, is.2) refl
    ∙ deep levels more (at + 1) is.0 rest depth wanted is.3
deep levels (remark more) at bytes rest depth wanted is =
    ap (λ (s : List ℕ). elements_at (suc depth) wanted (s ++ rest)) is.2 ∙ ap (elements_at (suc depth) wanted) (append_assoc is.0 is.1 rest)
    ∙ pass comment is.0 (is.1 ++ rest) (suc depth) (suc depth) wanted is.3 refl
    ∙ deep levels more (at + length is.0) is.1 rest depth wanted is.4
deep zero (element place tag inner more) at bytes rest depth wanted is = absurd is
deep (suc levels) (element place tag inner more) at bytes rest depth wanted is =
    let text = is.0 in
    let behind = is.1 ++ rest in
    let E = elements_at (suc depth) wanted in
    let over : E (text ++ behind) ≡ E behind = elim is.3.1 [
      | inl w ↦ pass (whole tag) text behind (suc depth) (suc depth) wanted w.0 (whole_deep depth wanted tag)
      | inr w ↦
          ap (λ (s : List ℕ). E (s ++ behind)) w.3 ∙ ap E (three w.0 w.1 w.2 behind)
          ∙ pass (start tag) w.0 (w.1 ++ (w.2 ++ behind)) (suc depth) (suc (suc depth)) wanted w.4 (start_deep depth wanted tag)
          ∙ deep levels inner (at + length w.0) w.1 (w.2 ++ behind) (suc depth) wanted w.5
          ∙ pass (finish tag.name) w.2 behind (suc (suc depth)) (suc depth) wanted w.6 refl
    ] in
    ap (λ (s : List ℕ). E (s ++ rest)) is.2 ∙ ap E (append_assoc text is.1 rest) ∙ over
    ∙ deep (suc levels) more (at + length text) is.1 rest depth wanted is.4

-- ---- the elements of one level

abbrev node_of : ℕ → Tag → Content → Node
node_of at tag inner = record { at = at; tag = tag; inner = inner }

whole_hit : (name : List ℕ) (tag : Tag) → bytes_eq tag.name name ≡ true → found tag false ≡ step_of 0 (Some name) (whole tag)
whole_hit name tag e = rw e refl

whole_miss : (name : List ℕ) (tag : Tag) → bytes_eq tag.name name ≡ false → on 0 ≡ step_of 0 (Some name) (whole tag)
whole_miss name tag e = rw e refl

start_hit : (name : List ℕ) (tag : Tag) → bytes_eq tag.name name ≡ true → found tag true ≡ step_of 0 (Some name) (start tag)
start_hit name tag e = rw e refl

start_miss : (name : List ℕ) (tag : Tag) → bytes_eq tag.name name ≡ false → on 1 ≡ step_of 0 (Some name) (start tag)
start_miss name tag e = rw e refl

-- the bytes of an element before those after it
record Lies (levels total at : ℕ) (tag : Tag) (inner : Content) (text behind : List ℕ) : Type 0 where
  is_element : IsElement (λ place inside. IsContent levels inner place inside) at at tag inner text
  place_is : at + length (text ++ behind) ≡ total

place_less : (total at : ℕ) (bytes : List ℕ) → at + length bytes ≡ total → total - length bytes ≡ at
place_less total at bytes e = omega arith

element_hit : (levels total at : ℕ) (tag : Tag) (inner : Content) (name text behind : List ℕ) (nodes : List Node) → Lies levels total at tag inner text behind
    → bytes_eq tag.name name ≡ true → AllMatch total (elements_at 0 (Some name) behind) nodes
    → AllMatch total (elements_at 0 (Some name) (text ++ behind)) (node_of at tag inner ∷ nodes)
element_hit levels total at tag inner name text behind nodes lies same others =
    let E = elements_at 0 (Some name) in
    let node = node_of at tag inner in
    elim lies.is_element.1 [
      | inl w ↦
          let f : Found = record { from = text ++ behind; tag = tag; is_open = false; rest = behind } in
          let split : E (text ++ behind) ≡ f ∷ E behind = elements_by (text ++ behind) (whole tag) behind 0 (Some name) (found tag false) (piece_again (whole tag) text behind w.0) (whole_hit name tag same) in
          let match : Matches total f node = record { at_is = place_less total at (text ++ behind) lies.place_is; tag_is = refl; content = inl (refl, w.1) } in
          subst (λ (fs : List Found). AllMatch total fs (node ∷ nodes)) (sym split) (match, others)
      | inr w ↦
          let rest = w.1 ++ (w.2 ++ behind) in
          let whole_is : text ++ behind ≡ w.0 ++ rest = ap (λ (s : List ℕ). s ++ behind) w.3 ∙ three w.0 w.1 w.2 behind in
          let f : Found = record { from = w.0 ++ rest; tag = tag; is_open = true; rest = rest } in
          let split : E (w.0 ++ rest) ≡ f ∷ elements_at 1 (Some name) rest = elements_by (w.0 ++ rest) (start tag) rest 0 (Some name) (found tag true) (piece_again (start tag) w.0 rest w.4) (start_hit name tag same) in
          let over : elements_at 1 (Some name) rest ≡ E behind = deep levels inner (at + length w.0) w.1 (w.2 ++ behind) 0 (Some name) w.5 ∙ pass (finish tag.name) w.2 behind 1 0 (Some name) w.6 refl in
          let placed : at + length (w.0 ++ rest) ≡ total = ap (λ (s : List ℕ). at + length s) (sym whole_is) ∙ lies.place_is in
          let inner_place : (at + length w.0) + length rest ≡ total = omega (arith, length-append w.0 rest) in
          let match : Matches total f node = record {
            at_is = place_less total at (w.0 ++ rest) placed;
            tag_is = refl;
            content = inr (record {
              levels = levels;
              inside = w.1;
              closing = w.2;
              more = behind;
              place = at + length w.0;
              opens = refl;
              rest_is = refl;
              is_content = w.5;
              is_end = w.6;
              place_is = inner_place;
            });
          } in
          subst (λ (fs : List Found). AllMatch total fs (node ∷ nodes)) (sym (ap E whole_is ∙ split ∙ ap (λ (fs : List Found). f ∷ fs) over)) (match, others)
    ]

element_miss : (levels total at : ℕ) (tag : Tag) (inner : Content) (name text behind : List ℕ) (nodes : List Node) → Lies levels total at tag inner text behind
    → bytes_eq tag.name name ≡ false → AllMatch total (elements_at 0 (Some name) behind) nodes → AllMatch total (elements_at 0 (Some name) (text ++ behind)) nodes
element_miss levels total at tag inner name text behind nodes lies other others =
    let E = elements_at 0 (Some name) in
    let over : E (text ++ behind) ≡ E behind = elim lies.is_element.1 [
      | inl w ↦ pass (whole tag) text behind 0 0 (Some name) w.0 (whole_miss name tag other)
      | inr w ↦
          ap (λ (s : List ℕ). E (s ++ behind)) w.3 ∙ ap E (three w.0 w.1 w.2 behind)
          ∙ pass (start tag) w.0 (w.1 ++ (w.2 ++ behind)) 0 1 (Some name) w.4 (start_miss name tag other)
          ∙ deep levels inner (at + length w.0) w.1 (w.2 ++ behind) 0 (Some name) w.5
          ∙ pass (finish tag.name) w.2 behind 1 0 (Some name) w.6 refl
    ] in
    subst (λ (fs : List Found). AllMatch total fs nodes) (sym over) others

pub level : (levels : ℕ) (content : Content) (total at : ℕ) (bytes rest name : List ℕ) → IsContent levels content at bytes → at + length (bytes ++ rest) ≡ total
    → elements_at 0 (Some name) rest ≡ [] → AllMatch total (elements_at 0 (Some name) (bytes ++ rest)) (named_in name content)
level levels nothing total at bytes rest name is placed none =
    let over : elements_at 0 (Some name) (bytes ++ rest) ≡ [] = ap (λ (s : List ℕ). elements_at 0 (Some name) (s ++ rest)) is ∙ none in
    subst (λ (fs : List Found). AllMatch total fs []) (sym over) tt
level levels (letter b more) total at bytes rest name is placed none =
    let over : elements_at 0 (Some name) (bytes ++ rest) ≡ elements_at 0 (Some name) (is.0 ++ rest) =
    ap (λ (s : List ℕ). elements_at 0 (Some name) (s ++ rest)) is.1 ∙ pass (byte b) (b ∷ []) (is.0 ++ rest) 0 0 (Some name) (refl, is.2) refl in
    let counted : length (bytes ++ rest) ≡ suc (length (is.0 ++ rest)) = ap (λ (s : List ℕ). length (s ++ rest)) is.1 in
    subst (λ (fs : List Found). AllMatch total fs (named_in name more)) (sym over) (level levels more total (at + 1) is.0 rest name is.3 (omega arith) none)
level levels (remark more) total at bytes rest name is placed none =
    let whole_is : bytes ++ rest ≡ is.0 ++ (is.1 ++ rest) = ap (λ (s : List ℕ). s ++ rest) is.2 ∙ append_assoc is.0 is.1 rest in
    let over : elements_at 0 (Some name) (bytes ++ rest) ≡ elements_at 0 (Some name) (is.1 ++ rest) =
    ap (elements_at 0 (Some name)) whole_is ∙ pass comment is.0 (is.1 ++ rest) 0 0 (Some name) is.3 refl in
    let counted : length (bytes ++ rest) ≡ length is.0 + length (is.1 ++ rest) = ap (λ (s : List ℕ). length s) whole_is ∙ length-append is.0 (is.1 ++ rest) in
    subst (λ (fs : List Found). AllMatch total fs (named_in name more)) (sym over) (level levels more total (at + length is.0) is.1 rest name is.4 (omega arith) none)
level zero (element place tag inner more) total at bytes rest name is placed none = absurd is
level (suc levels) (element place tag inner more) total at bytes rest name is placed none =
    let text = is.0 in
    let behind = is.1 ++ rest in
    let whole_is : bytes ++ rest ≡ text ++ behind = ap (λ (s : List ℕ). s ++ rest) is.2 ∙ append_assoc text is.1 rest in
    let counted : length (bytes ++ rest) ≡ length text + length behind = ap (λ (s : List ℕ). length s) whole_is ∙ length-append text behind in
    let others = level (suc levels) more total (at + length text) is.1 rest name is.4 (omega arith) none in
    let here : place ≡ at = is.3.0 in
    let lies : Lies levels total at tag inner text behind = record {
      is_element = (refl, is.3.1);
      place_is = ap (λ (s : List ℕ). at + length s) (sym whole_is) ∙ placed;
    } in
    let nodes = named_in name more in
    let P : Bool → Type 0 = λ t. bytes_eq tag.name name ≡ t → AllMatch total (elements_at 0 (Some name) (text ++ behind)) (cond t (node_of place tag inner ∷ nodes) nodes) in
    let both : P (bytes_eq tag.name name) = elim (bytes_eq tag.name name) as P [
      | true ↦ λ e. subst (λ (n : ℕ). AllMatch total (elements_at 0 (Some name) (text ++ behind)) (node_of n tag inner ∷ nodes)) (sym here) (element_hit levels total at tag inner name text behind nodes lies e others)
      | false ↦ λ e. element_miss levels total at tag inner name text behind nodes lies e others
    ] in
    subst (λ (s : List ℕ). AllMatch total (elements_at 0 (Some name) s) (cond (bytes_eq tag.name name) (node_of place tag inner ∷ nodes) nodes)) (sym whole_is) (both refl)

-- ---- what the checks ask

end_of_level : (name wanted text rest : List ℕ) → IsPiece (finish name) text → elements_at 0 (Some wanted) (text ++ rest) ≡ []
end_of_level name wanted text rest is = elements_by (text ++ rest) (finish name) rest 0 (Some wanted) closed (piece_again (finish name) text rest is) refl

pub children_match : (total : ℕ) (f : Found) (node : Node) (name : List ℕ) → Matches total f node → AllMatch total (children_at name f) (named_in name node.inner)
children_match total f node name m =
    elim m.content [
      | inl h ↦
          let shut = h.0 in
          let none : children_at name f ≡ [] = rw shut refl in
          let leaf : named_in name node.inner ≡ [] = ap (named_in name) h.1 in
          subst (λ (ns : List Node). AllMatch total (children_at name f) ns) (sym leaf) (subst (λ (fs : List Found). AllMatch total fs []) (sym none) tt)
      | inr h ↦
          let opens = h.opens in
          let inside : children_at name f ≡ elements_at 0 (Some name) (h.inside ++ (h.closing ++ h.more)) = (rw opens refl) ∙ ap (elements_at 0 (Some name)) h.rest_is in
          let placed : h.place + length (h.inside ++ (h.closing ++ h.more)) ≡ total = ap (λ (s : List ℕ). h.place + length s) (sym h.rest_is) ∙ h.place_is in
          let all = level h.levels node.inner total h.place h.inside (h.closing ++ h.more) name h.is_content placed (end_of_level node.tag.name name h.closing h.more h.is_end) in
          subst (λ (fs : List Found). AllMatch total fs (named_in name node.inner)) (sym inside) all
    ]

-- text up to an end tag
abbrev text_before : List ℕ → Option (List ℕ)
text_before bytes = byte_at 60 (after Text bytes) >>= (λ rest. byte_at 47 rest) >>= λ rest. Some (front Text bytes)

text_letter : (b : ℕ) (bytes : List ℕ) → is_in Text b ≡ true → text_before (b ∷ bytes) ≡ option_map (λ (text : List ℕ). b ∷ text) (text_before bytes)
text_letter b bytes is = rw is (by_end (byte_at 60 (after Text bytes) >>= λ rest. byte_at 47 rest))
  where
    by_end : (o : Option (List ℕ)) → (o >>= λ rest. Some (b ∷ front Text bytes)) ≡ option_map (λ (text : List ℕ). b ∷ text) (o >>= λ rest. Some (front Text bytes))
    by_end None = refl
    by_end (Some rest) = refl

no_slash : (b : ℕ) → starts_name b ≡ true → eqb b 47 ≡ false
no_slash b is = not_start b 47 is refl

text_tag : (name rest : List ℕ) → IsTagName name → text_before (60 ∷ (name ++ rest)) ≡ None
text_tag [] rest is = absurd is
text_tag (b ∷ name) rest is = let apart = no_slash b is.0 in rw apart refl

tag_text_none : (text more rest name : List ℕ) → text ≡ 60 ∷ (name ++ more) → IsTagName name → text_before (text ++ rest) ≡ None
tag_text_none text more rest name e is =
    ap (λ (s : List ℕ). text_before (s ++ rest)) e ∙ ap (λ (s : List ℕ). text_before (60 ∷ s)) (append_assoc name more rest) ∙ text_tag name (more ++ rest) is

text_is : (levels : ℕ) (content : Content) (at : ℕ) (bytes closing more name : List ℕ) → IsContent levels content at bytes → IsPiece (finish name) closing
    → text_before (bytes ++ (closing ++ more)) ≡ text_of content
text_is levels nothing at bytes closing more name is end =
    ap (λ (s : List ℕ). text_before (s ++ (closing ++ more))) is ∙ ap (λ (s : List ℕ). text_before (s ++ more)) end.parts
text_is levels (letter b rest) at bytes closing more name is end =
    ap (λ (s : List ℕ). text_before (s ++ (closing ++ more))) is.1 ∙ text_letter b (is.0 ++ (closing ++ more)) is.2
    ∙ ap (option_map (λ (text : List ℕ). b ∷ text)) (text_is levels rest (at + 1) is.0 closing more name is.3 end)
text_is levels (remark rest) at bytes closing more name is end =
    ap (λ (s : List ℕ). text_before (s ++ (closing ++ more))) (is.2 ∙ ap (λ (s : List ℕ). s ++ is.1) is.3.1)
text_is zero (element place tag inner rest) at bytes closing more name is end = absurd is
text_is (suc levels) (element place tag inner rest) at bytes closing more name is end =
    let regroup : bytes ++ (closing ++ more) ≡ is.0 ++ (is.1 ++ (closing ++ more)) = ap (λ (s : List ℕ). s ++ (closing ++ more)) is.2 ∙ append_assoc is.0 is.1 (closing ++ more) in
    ap text_before regroup ∙
    elim is.3.1 [
      | inl w ↦ tag_text_none is.0 (w.0.attributes ++ (w.0.space ++ 47 ∷ 62 ∷ [])) (is.1 ++ (closing ++ more)) tag.name w.0.parts w.0.is_name
      | inr w ↦
          ap (λ (s : List ℕ). text_before (s ++ (is.1 ++ (closing ++ more)))) w.3 ∙ ap text_before (append_assoc w.0 (w.1 ++ w.2) (is.1 ++ (closing ++ more)))
          ∙ tag_text_none w.0 (w.4.attributes ++ (w.4.space ++ 62 ∷ [])) ((w.1 ++ w.2) ++ (is.1 ++ (closing ++ more))) tag.name w.4.parts w.4.is_name
    ]

text_match : (total : ℕ) (f : Found) (node : Node) → Matches total f node → text_at f ≡ text_of node.inner
unfolding text_at
text_match total f node m =
    elim m.content [
      | inl h ↦ let shut = h.0 in (rw shut refl) ∙ ap text_of (sym h.1)
      | inr h ↦
          let opens = h.opens in
          let inside : cond f.is_open (text_before f.rest) (Some []) ≡ text_before f.rest = rw opens refl in
          inside ∙ ap text_before h.rest_is ∙ text_is h.levels node.inner h.place h.inside h.closing h.more node.tag.name h.is_content h.is_end
    ]

pub row_match : (total : ℕ) (f : Found) (node : Node) → Matches total f node → row_of total f ≡ node_row node
row_match total f node m =
    let at_is = m.at_is in
    let label_is : value_of (codes "t") f.tag.attributes ≡ value_of (codes "t") node.tag.attributes = ap (λ (tag : Tag). value_of (codes "t") tag.attributes) m.tag_is in
    let text_same = text_match total f node m in
    cc

-- ---- the root

abbrev Top : List ℕ → List Found
Top bytes = elements_at 0 None bytes

top_misc : (pieces : List Piece) (bytes rest : List ℕ) → Spell pieces bytes → AreMisc pieces → Top (bytes ++ rest) ≡ Top rest
top_misc [] bytes rest spelled are = ap (λ (s : List ℕ). Top (s ++ rest)) spelled
top_misc (byte b ∷ pieces) bytes rest spelled are =
    ap (λ (s : List ℕ). Top (s ++ rest)) spelled.2 ∙ ap Top (append_assoc spelled.0 spelled.1 rest)
    ∙ pass (byte b) spelled.0 (spelled.1 ++ rest) 0 0 None spelled.3 refl ∙ top_misc pieces spelled.1 rest spelled.4 are.1
top_misc (comment ∷ pieces) bytes rest spelled are =
    ap (λ (s : List ℕ). Top (s ++ rest)) spelled.2 ∙ ap Top (append_assoc spelled.0 spelled.1 rest)
    ∙ pass comment spelled.0 (spelled.1 ++ rest) 0 0 None spelled.3 refl ∙ top_misc pieces spelled.1 rest spelled.4 are
top_misc (declaration ∷ pieces) bytes rest spelled are = absurd are
top_misc (start tag ∷ pieces) bytes rest spelled are = absurd are
top_misc (whole tag ∷ pieces) bytes rest spelled are = absurd are
top_misc (finish name ∷ pieces) bytes rest spelled are = absurd are

top_space : (space rest : List ℕ) → InClass White space → Top (space ++ rest) ≡ Top rest
top_space [] rest white = refl
top_space (b ∷ space) rest white = pass (byte b) (b ∷ []) (space ++ rest) 0 0 None (refl, white_is_text b white.0) refl ∙ top_space space rest white.1

top_opening : (opening rest : List ℕ) → IsDocumentOpening opening → Top (opening ++ rest) ≡ Top rest
top_opening opening rest (inl none) = ap (λ (s : List ℕ). Top (s ++ rest)) none
top_opening opening rest (inr h) =
    ap (λ (s : List ℕ). Top (s ++ rest)) h.2 ∙ ap Top (append_assoc h.0 h.1 rest) ∙ top_space h.0 (h.1 ++ rest) h.3 ∙ pass declaration h.1 rest 0 0 None h.4 refl

top_mark : (mark rest : List ℕ) → IsMark mark → Top (mark ++ rest) ≡ Top rest
top_mark [] rest is = refl
top_mark (b ∷ mark) rest is =
    ap (λ (s : List ℕ). Top (s ++ rest)) is
    ∙ pass (byte 239) (239 ∷ []) (187 ∷ 191 ∷ rest) 0 0 None (refl, refl) refl
    ∙ pass (byte 187) (187 ∷ []) (191 ∷ rest) 0 0 None (refl, refl) refl
    ∙ pass (byte 191) (191 ∷ []) rest 0 0 None (refl, refl) refl

pub mark_passed : (bytes : List ℕ) → Top bytes ≡ Top (after_mark bytes)
mark_passed bytes =
    let m = splits_mark bytes in
    ap Top m.parts ∙ top_mark m.mark (after_mark bytes) m.is_mark

-- the root is the first element that is found
pub record FindsRoot (bytes : List ℕ) (root : Node) : Type 0 where
  pub found : Found
  pub others : List Found
  pub first : Top bytes ≡ found ∷ others
  pub matches : Matches (length bytes) found root

root_here : (total at : ℕ) (root : Node) (text behind : List ℕ) → IsElement (λ place inside. IsContent 63 root.inner place inside) at root.at root.tag root.inner text
    → at + length (text ++ behind) ≡ total → (f : Found) × (others : List Found) × (Top (text ++ behind) ≡ f ∷ others) × Matches total f root
root_here total at root text behind is placed =
    elim is.1 [
      | inl w ↦
          let f : Found = record { from = text ++ behind; tag = root.tag; is_open = false; rest = behind } in
          let split : Top (text ++ behind) ≡ f ∷ Top behind = elements_by (text ++ behind) (whole root.tag) behind 0 None (found root.tag false) (piece_again (whole root.tag) text behind w.0) refl in
          (f, Top behind, split, record { at_is = place_less total at (text ++ behind) placed ∙ sym is.0; tag_is = refl; content = inl (refl, w.1) })
      | inr w ↦
          let rest = w.1 ++ (w.2 ++ behind) in
          let whole_is : text ++ behind ≡ w.0 ++ rest = ap (λ (s : List ℕ). s ++ behind) w.3 ∙ three w.0 w.1 w.2 behind in
          let f : Found = record { from = w.0 ++ rest; tag = root.tag; is_open = true; rest = rest } in
          let split : Top (w.0 ++ rest) ≡ f ∷ elements_at 1 None rest = elements_by (w.0 ++ rest) (start root.tag) rest 0 None (found root.tag true) (piece_again (start root.tag) w.0 rest w.4) refl in
          let here : at + length (w.0 ++ rest) ≡ total = ap (λ (s : List ℕ). at + length s) (sym whole_is) ∙ placed in
          let inner_place : (at + length w.0) + length rest ≡ total = omega (arith, length-append w.0 rest) in (
            f,
            elements_at 1 None rest,
            ap Top whole_is ∙ split,
            record {
              at_is = place_less total at (w.0 ++ rest) here ∙ sym is.0;
              tag_is = refl;
              content = inr (record {
                levels = 63;
                inside = w.1;
                closing = w.2;
                more = behind;
                place = at + length w.0;
                opens = refl;
                rest_is = refl;
                is_content = w.5;
                is_end = w.6;
                place_is = inner_place;
              });
            },
          )
    ]

pub finds_root : (bytes : List ℕ) (root : Node) → IsDocument bytes root → FindsRoot bytes root
finds_root bytes root d =
    let at = length d.mark + length d.opening + length d.before in
    let inside = d.before ++ (d.text ++ d.behind) in
    let counted : length bytes ≡ length d.mark + length (d.opening ++ inside) = ap (λ (s : List ℕ). length s) d.parts ∙ length-append d.mark (d.opening ++ inside) in
    let placed : at + length (d.text ++ d.behind) ≡ length bytes = omega (arith, length-append d.opening inside, length-append d.before (d.text ++ d.behind)) in
    let h = root_here (length bytes) at root d.text d.behind d.is_root placed in
    let over : Top bytes ≡ Top (d.text ++ d.behind) =
    ap Top d.parts ∙ top_mark d.mark (d.opening ++ inside) d.is_mark ∙ top_opening d.opening inside d.is_opening
    ∙ top_misc d.misc_before.0 d.before (d.text ++ d.behind) d.misc_before.1 (are_misc d.misc_before.0 d.misc_before.2) in
    record { found = h.0; others = h.1; first = over ∙ h.2; matches = h.3 }
