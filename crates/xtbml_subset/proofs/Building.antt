-- What the walk goes through to its end is a document.
use Rattle.xtbml_subset.proofs.Names.{◌≡◌, ℕ, zero, suc, ◌+◌, ◌<◌, true, ltb, List, [], ◌∷◌, ◌++◌, length, Option, Some, None, refl, sym, ap, subst, ◌∙◌, inl, inr, append_assoc, arith, ltb-true, length-append, bytes_eq-Decides, bytes_eq, White, Text, Opening, Prolog, Epilog, is_in, Tag, Piece, byte, comment, declaration, start, whole, finish, IsPiece, IsMark, Spell, State, outside, Steps, Content, nothing, letter, remark, element, IsElement, IsContent, IsMisc, IsDocumentOpening, Node, IsDocument}
use Rattle.xtbml_subset.proofs.Misc.{AreMisc, are_misc, misc_from}
use Rattle.xtbml_subset.proofs.Options.{chosen}

abbrev open_state : List (List ℕ) → State
open_state names = record { phase = Epilog; names = names }

abbrev some_state : State → Option State
some_state state = Some state

same_state : (x y : State) → some_state x ≡ some_state y → x ≡ y
same_state x y e = cc

-- the content of the innermost element that is open, its end tag, and what follows for the others
abbrev Closes : ℕ → List (List ℕ) → ℕ → List ℕ → Type 0
Closes levels [] at bytes = IsMisc bytes
Closes levels (name ∷ names) at bytes =
    (content : Content) × (inside : List ℕ) × (closing : List ℕ) × (rest : List ℕ)
    × (bytes ≡ inside ++ (closing ++ rest)) × IsContent levels content at inside × IsPiece (finish name) closing
    × Closes (suc levels) names (at + length inside + length closing) rest

misc_more : (piece : Piece) (bytes text rest : List ℕ) → bytes ≡ text ++ rest → IsPiece piece text → ((pieces : List Piece) → AreMisc pieces → AreMisc (piece ∷ pieces))
    → IsMisc rest → IsMisc bytes
misc_more piece bytes text rest parts is more misc =
    (piece ∷ misc.0, (text, rest, parts, is, misc.1), misc_from (piece ∷ misc.0) (more misc.0 (are_misc misc.0 misc.2)))

place_moves : (levels : ℕ) (names : List (List ℕ)) (at other : ℕ) (bytes : List ℕ) → at ≡ other → Closes levels names at bytes → Closes levels names other bytes
place_moves levels names at other bytes e h = subst (λ (n : ℕ). Closes levels names n bytes) e h

abbrev Inside : ℕ → Content → ℕ → List ℕ → Type 0
Inside levels content at bytes = IsContent levels content at bytes

-- one letter before the content
letter_closes : (levels : ℕ) (name : List ℕ) (names : List (List ℕ)) (at : ℕ) (b : ℕ) (rest : List ℕ) → is_in Text b ≡ true
    → Closes levels (name ∷ names) (at + 1) rest → Closes levels (name ∷ names) at (b ∷ rest)
letter_closes levels name names at b rest is h =
    let moved : (at + 1) + length h.1 + length h.2 ≡ at + length (b ∷ h.1) + length h.2 = omega arith in (
      letter b h.0,
      b ∷ h.1,
      h.2,
      h.3,
      ap (λ (s : List ℕ). b ∷ s) h.4,
      (h.1, refl, is, h.5),
      h.6,
      place_moves (suc levels) names _ (at + length (b ∷ h.1) + length h.2) h.3 moved h.7,
    )

remark_closes : (levels : ℕ) (name : List ℕ) (names : List (List ℕ)) (at : ℕ) (text rest : List ℕ) → IsPiece comment text
    → Closes levels (name ∷ names) (at + length text) rest → Closes levels (name ∷ names) at (text ++ rest)
remark_closes levels name names at text rest is h =
    let moved : (at + length text) + length h.1 + length h.2 ≡ at + length (text ++ h.1) + length h.2 = omega (arith, length-append text h.1) in (
      remark h.0,
      text ++ h.1,
      h.2,
      h.3,
      ap (λ (s : List ℕ). text ++ s) h.4 ∙ sym (append_assoc text h.1 (h.2 ++ h.3)),
      (text, h.1, refl, is, h.5),
      h.6,
      place_moves (suc levels) names _ (at + length (text ++ h.1) + length h.2) h.3 moved h.7,
    )

-- an element before the content
element_closes : (levels : ℕ) (name : List ℕ) (names : List (List ℕ)) (at : ℕ) (tag : Tag) (inner : Content) (text rest : List ℕ)
    → IsElement (λ place inside. IsContent levels inner place inside) at at tag inner text
    → Closes (suc levels) (name ∷ names) (at + length text) rest → Closes (suc levels) (name ∷ names) at (text ++ rest)
element_closes levels name names at tag inner text rest is h =
    let moved : (at + length text) + length h.1 + length h.2 ≡ at + length (text ++ h.1) + length h.2 = omega (arith, length-append text h.1) in (
      element at tag inner h.0,
      text ++ h.1,
      h.2,
      h.3,
      ap (λ (s : List ℕ). text ++ s) h.4 ∙ sym (append_assoc text h.1 (h.2 ++ h.3)),
      (text, h.1, refl, is, h.5),
      h.6,
      place_moves (suc (suc levels)) names _ (at + length (text ++ h.1) + length h.2) h.3 moved h.7,
    )

three : (opening inside closing rest : List ℕ) → opening ++ (inside ++ (closing ++ rest)) ≡ (opening ++ (inside ++ closing)) ++ rest
three opening inside closing rest = sym (simp append_assoc)

three_long : (at : ℕ) (opening inside closing : List ℕ) → (at + length opening) + length inside + length closing ≡ at + length (opening ++ (inside ++ closing))
three_long at opening inside closing = omega (arith, length-append opening (inside ++ closing), length-append inside closing)

-- an element that was opened and closed again
opened_closes : (levels : ℕ) (name : List ℕ) (names : List (List ℕ)) (at : ℕ) (tag : Tag) (opening rest : List ℕ) → IsPiece (start tag) opening
    → Closes levels (tag.name ∷ name ∷ names) (at + length opening) rest → Closes (suc levels) (name ∷ names) at (opening ++ rest)
opened_closes levels name names at tag opening rest is h =
    let text = opening ++ (h.1 ++ h.2) in
    let whole_is : opening ++ rest ≡ text ++ h.3 = ap (λ (s : List ℕ). opening ++ s) h.4 ∙ three opening h.1 h.2 h.3 in
    let an_element : IsElement (λ place inside. IsContent levels h.0 place inside) at at tag h.0 text = (refl, inr (opening, h.1, h.2, refl, is, h.5, h.6)) in
    let behind = place_moves (suc levels) (name ∷ names) _ (at + length text) h.3 (three_long at opening h.1 h.2) h.7 in
    subst (Closes (suc levels) (name ∷ names) at) (sym whole_is) (element_closes levels name names at tag h.0 text h.3 an_element behind)

-- the end tag of the innermost element
finish_closes : (levels : ℕ) (name : List ℕ) (names : List (List ℕ)) (at : ℕ) (text rest : List ℕ) → IsPiece (finish name) text
    → Closes (suc levels) names (at + length text) rest → Closes levels (name ∷ names) at (text ++ rest)
finish_closes levels name names at text rest is h =
    let moved : at + length text ≡ at + 0 + length text = omega arith in
    (nothing, [], text, rest, refl, refl, is, place_moves (suc levels) names _ (at + 0 + length text) rest moved h)

abbrev NestsToEnd : List (List ℕ) → List Piece → Type 0
NestsToEnd names pieces = Steps (open_state names) pieces (outside Epilog)

next_is : (state next : State) (pieces : List Piece) → some_state state ≡ Some next → Steps next pieces (outside Epilog) → Steps state pieces (outside Epilog)
next_is state next pieces e h = subst (λ (s : State). Steps s pieces (outside Epilog)) (sym (same_state state next e)) h

no_next : (next : State) (P : Type 0) → None ≡ some_state next → P
no_next next P e = absurd cc

pub closes : (pieces : List Piece) (levels : ℕ) (names : List (List ℕ)) (at : ℕ) (bytes : List ℕ) → levels + length names ≡ 64 → Spell pieces bytes
    → NestsToEnd names pieces → Closes levels names at bytes
closes [] levels [] at bytes room spelled nests = ([], spelled, tt)
closes [] levels (name ∷ names) at bytes room spelled nests = absurd (let e : name ∷ names ≡ [] = ap (λ (s : State). s.names) nests in cc)
closes (byte b ∷ pieces) levels [] at bytes room spelled nests =
    elim (chosen (is_in White b) (Some (outside Epilog)) None (Some nests.0) nests.1) [
      | inl h ↦
          misc_more (byte b) bytes spelled.0 spelled.1 spelled.2 spelled.3 (λ more are. (h.0, are))
          (closes pieces levels [] (at + length spelled.0) spelled.1 room spelled.4 (next_is (outside Epilog) nests.0 pieces h.1 nests.2))
      | inr h ↦ no_next nests.0 (IsMisc bytes) h.1
    ]
closes (comment ∷ pieces) levels [] at bytes room spelled nests =
    misc_more comment bytes spelled.0 spelled.1 spelled.2 spelled.3 (λ more are. are)
    (closes pieces levels [] (at + length spelled.0) spelled.1 room spelled.4 (next_is (outside Epilog) nests.0 pieces nests.1 nests.2))
closes (declaration ∷ pieces) levels [] at bytes room spelled nests = no_next nests.0 (IsMisc bytes) nests.1
closes (start tag ∷ pieces) levels [] at bytes room spelled nests = no_next nests.0 (IsMisc bytes) nests.1
closes (whole tag ∷ pieces) levels [] at bytes room spelled nests = no_next nests.0 (IsMisc bytes) nests.1
closes (finish name ∷ pieces) levels [] at bytes room spelled nests = no_next nests.0 (IsMisc bytes) nests.1
closes (byte b ∷ pieces) levels (name ∷ names) at bytes room spelled nests =
    let bytes_are : bytes ≡ b ∷ spelled.1 = spelled.2 ∙ ap (λ (t : List ℕ). t ++ spelled.1) spelled.3.0 in
    let behind = closes pieces levels (name ∷ names) (at + 1) spelled.1 room spelled.4 (next_is (open_state (name ∷ names)) nests.0 pieces nests.1 nests.2) in
    subst (Closes levels (name ∷ names) at) (sym bytes_are) (letter_closes levels name names at b spelled.1 spelled.3.1 behind)
closes (comment ∷ pieces) levels (name ∷ names) at bytes room spelled nests =
    let behind = closes pieces levels (name ∷ names) (at + length spelled.0) spelled.1 room spelled.4 (next_is (open_state (name ∷ names)) nests.0 pieces nests.1 nests.2) in
    subst (Closes levels (name ∷ names) at) (sym spelled.2) (remark_closes levels name names at spelled.0 spelled.1 spelled.3 behind)
closes (declaration ∷ pieces) levels (name ∷ names) at bytes room spelled nests = no_next nests.0 (Closes levels (name ∷ names) at bytes) nests.1
closes (start tag ∷ pieces) zero (name ∷ names) at bytes room spelled nests =
    elim (chosen (ltb (length (name ∷ names)) 64) (Some (open_state (tag.name ∷ name ∷ names))) None (Some nests.0) nests.1) [
      | inl h ↦ absurd (let lt : length (name ∷ names) < 64 = ltb-true (length (name ∷ names)) 64 h.0 in omega arith)
      | inr h ↦ no_next nests.0 (Closes zero (name ∷ names) at bytes) h.1
    ]
closes (start tag ∷ pieces) (suc levels) (name ∷ names) at bytes room spelled nests =
    elim (chosen (ltb (length (name ∷ names)) 64) (Some (open_state (tag.name ∷ name ∷ names))) None (Some nests.0) nests.1) [
      | inl h ↦
          let deeper : levels + length (tag.name ∷ name ∷ names) ≡ 64 = omega arith in
          let behind = closes pieces levels (tag.name ∷ name ∷ names) (at + length spelled.0) spelled.1 deeper spelled.4
          (next_is (open_state (tag.name ∷ name ∷ names)) nests.0 pieces h.1 nests.2) in
          subst (Closes (suc levels) (name ∷ names) at) (sym spelled.2) (opened_closes levels name names at tag spelled.0 spelled.1 spelled.3 behind)
      | inr h ↦ no_next nests.0 (Closes (suc levels) (name ∷ names) at bytes) h.1
    ]
closes (whole tag ∷ pieces) zero (name ∷ names) at bytes room spelled nests =
    elim (chosen (ltb (length (name ∷ names)) 64) (Some (open_state (name ∷ names))) None (Some nests.0) nests.1) [
      | inl h ↦ absurd (let lt : length (name ∷ names) < 64 = ltb-true (length (name ∷ names)) 64 h.0 in omega arith)
      | inr h ↦ no_next nests.0 (Closes zero (name ∷ names) at bytes) h.1
    ]
closes (whole tag ∷ pieces) (suc levels) (name ∷ names) at bytes room spelled nests =
    elim (chosen (ltb (length (name ∷ names)) 64) (Some (open_state (name ∷ names))) None (Some nests.0) nests.1) [
      | inl h ↦
          let behind = closes pieces (suc levels) (name ∷ names) (at + length spelled.0) spelled.1 room spelled.4
          (next_is (open_state (name ∷ names)) nests.0 pieces h.1 nests.2) in
          let an_element : IsElement (λ place inside. IsContent levels nothing place inside) at at tag nothing spelled.0 = (refl, inl (spelled.3, refl)) in
          subst (Closes (suc levels) (name ∷ names) at) (sym spelled.2) (element_closes levels name names at tag nothing spelled.0 spelled.1 an_element behind)
      | inr h ↦ no_next nests.0 (Closes (suc levels) (name ∷ names) at bytes) h.1
    ]
closes (finish last ∷ pieces) levels (name ∷ names) at bytes room spelled nests =
    elim (chosen (bytes_eq last name) (Some (open_state names)) None (Some nests.0) nests.1) [
      | inl h ↦
          let same : last ≡ name = (bytes_eq-Decides last name).0 h.0 in
          let higher : suc levels + length names ≡ 64 = omega arith in
          let behind = closes pieces (suc levels) names (at + length spelled.0) spelled.1 higher spelled.4 (next_is (open_state names) nests.0 pieces h.1 nests.2) in
          let is_end : IsPiece (finish name) spelled.0 = subst (λ (n : List ℕ). IsPiece (finish n) spelled.0) same spelled.3 in
          subst (Closes levels (name ∷ names) at) (sym spelled.2) (finish_closes levels name names at spelled.0 spelled.1 is_end behind)
      | inr h ↦ no_next nests.0 (Closes levels (name ∷ names) at bytes) h.1
    ]

-- ---- before the root

-- white space and comments, the root, and what follows it
pub record Roots (at : ℕ) (bytes : List ℕ) : Type 0 where
  pub root : Node
  pub before : List ℕ
  pub text : List ℕ
  pub behind : List ℕ
  pub parts : bytes ≡ before ++ (text ++ behind)
  pub misc_before : IsMisc before
  pub is_root : IsElement (λ place inside. IsContent 63 root.inner place inside) (at + length before) root.at root.tag root.inner text
  pub misc_behind : IsMisc behind

roots_more : (piece : Piece) (at : ℕ) (text rest : List ℕ) → IsPiece piece text → ((pieces : List Piece) → AreMisc pieces → AreMisc (piece ∷ pieces))
    → Roots (at + length text) rest → Roots at (text ++ rest)
roots_more piece at text rest is more r =
    let moved : (at + length text) + length r.before ≡ at + length (text ++ r.before) = omega (arith, length-append text r.before) in
    record {
      root = r.root;
      before = text ++ r.before;
      text = r.text;
      behind = r.behind;
      parts = ap (λ (s : List ℕ). text ++ s) r.parts ∙ sym (append_assoc text r.before (r.text ++ r.behind));
      misc_before = misc_more piece (text ++ r.before) text r.before refl is more r.misc_before;
      is_root = subst (λ (n : ℕ). IsElement (λ place inside. IsContent 63 r.root.inner place inside) n r.root.at r.root.tag r.root.inner r.text) moved r.is_root;
      misc_behind = r.misc_behind;
    }

no_misc : IsMisc []
no_misc = ([], refl, tt)

roots_here : (at : ℕ) (tag : Tag) (inner : Content) (text behind : List ℕ) → IsElement (λ place inside. IsContent 63 inner place inside) at at tag inner text → IsMisc behind
    → Roots at (text ++ behind)
roots_here at tag inner text behind is misc =
    let moved : at ≡ at + 0 = omega arith in
    record {
      root = record { at = at; tag = tag; inner = inner };
      before = [];
      text = text;
      behind = behind;
      parts = refl;
      misc_before = no_misc;
      is_root = subst (λ (n : ℕ). IsElement (λ place inside. IsContent 63 inner place inside) n at tag inner text) moved is;
      misc_behind = misc;
    }

roots_whole : (at : ℕ) (tag : Tag) (text rest : List ℕ) (pieces : List Piece) → IsPiece (whole tag) text → Spell pieces rest → NestsToEnd [] pieces → Roots at (text ++ rest)
roots_whole at tag text rest pieces is spelled nests = roots_here at tag nothing text rest (refl, inl (is, refl)) (closes pieces 64 [] 0 rest refl spelled nests)

roots_start : (at : ℕ) (tag : Tag) (opening rest : List ℕ) (pieces : List Piece) → IsPiece (start tag) opening → Spell pieces rest → NestsToEnd (tag.name ∷ []) pieces
    → Roots at (opening ++ rest)
roots_start at tag opening rest pieces is spelled nests =
    let h = closes pieces 63 (tag.name ∷ []) (at + length opening) rest refl spelled nests in
    let text = opening ++ (h.1 ++ h.2) in
    let whole_is : opening ++ rest ≡ text ++ h.3 = ap (λ (s : List ℕ). opening ++ s) h.4 ∙ three opening h.1 h.2 h.3 in
    subst (Roots at) (sym whole_is) (roots_here at tag h.0 text h.3 (refl, inr (opening, h.1, h.2, refl, is, h.5, h.6)) h.7)

pub roots : (pieces : List Piece) (at : ℕ) (bytes : List ℕ) → Spell pieces bytes → Steps (outside Prolog) pieces (outside Epilog) → Roots at bytes
roots [] at bytes spelled nests = absurd (let e : Prolog ≡ Epilog = ap (λ (s : State). s.phase) nests in cc)
roots (byte b ∷ pieces) at bytes spelled nests =
    elim (chosen (is_in White b) (Some (outside Prolog)) None (Some nests.0) nests.1) [
      | inl h ↦
          let rest = roots pieces (at + length spelled.0) spelled.1 spelled.4 (next_is (outside Prolog) nests.0 pieces h.1 nests.2) in
          subst (Roots at) (sym spelled.2) (roots_more (byte b) at spelled.0 spelled.1 spelled.3 (λ more are. (h.0, are)) rest)
      | inr h ↦ no_next nests.0 (Roots at bytes) h.1
    ]
roots (comment ∷ pieces) at bytes spelled nests =
    let rest = roots pieces (at + length spelled.0) spelled.1 spelled.4 (next_is (outside Prolog) nests.0 pieces nests.1 nests.2) in
    subst (Roots at) (sym spelled.2) (roots_more comment at spelled.0 spelled.1 spelled.3 (λ more are. are) rest)
roots (declaration ∷ pieces) at bytes spelled nests = no_next nests.0 (Roots at bytes) nests.1
roots (start tag ∷ pieces) at bytes spelled nests =
    subst (Roots at) (sym spelled.2) (roots_start at tag spelled.0 spelled.1 pieces spelled.3 spelled.4 (next_is (open_state (tag.name ∷ [])) nests.0 pieces nests.1 nests.2))
roots (whole tag ∷ pieces) at bytes spelled nests =
    subst (Roots at) (sym spelled.2) (roots_whole at tag spelled.0 spelled.1 pieces spelled.3 spelled.4 (next_is (outside Epilog) nests.0 pieces nests.1 nests.2))
roots (finish name ∷ pieces) at bytes spelled nests = no_next nests.0 (Roots at bytes) nests.1

-- a declaration or nothing before these
pub record Opens (at : ℕ) (bytes : List ℕ) : Type 0 where
  pub opening : List ℕ
  pub rest : List ℕ
  pub parts : bytes ≡ opening ++ rest
  pub is_opening : IsDocumentOpening opening
  pub roots_in : Roots (at + length opening) rest

opens_none : (at : ℕ) (bytes : List ℕ) → Roots at bytes → Opens at bytes
opens_none at bytes r =
    let moved : at ≡ at + 0 = omega arith in
    record { opening = []; rest = bytes; parts = refl; is_opening = inl refl; roots_in = subst (λ (n : ℕ). Roots n bytes) moved r }

opens_white : (at b : ℕ) (rest : List ℕ) → is_in White b ≡ true → is_in Text b ≡ true → Opens (at + 1) rest → Opens at (b ∷ rest)
opens_white at b rest white is_text o =
    elim o.is_opening [
      | inl none ↦
          let bare : rest ≡ o.rest = o.parts ∙ ap (λ (s : List ℕ). s ++ o.rest) none in
          let there : Roots (at + 1) o.rest = subst (λ (n : ℕ). Roots n o.rest) (let count : length o.opening ≡ 0 = ap (λ (s : List ℕ). length s) none in omega arith) o.roots_in in
          let here : Roots (at + 1) rest = subst (Roots (at + 1)) (sym bare) there in
          opens_none at (b ∷ rest) (roots_more (byte b) at (b ∷ []) rest (refl, is_text) (λ more are. (white, are)) here)
      | inr h ↦
          let moved : (at + 1) + length o.opening ≡ at + length (b ∷ o.opening) = omega arith in
          let is_opening : IsDocumentOpening (b ∷ o.opening) = inr (b ∷ h.0, h.1, ap (λ (s : List ℕ). b ∷ s) h.2, (white, h.3), h.4) in
          record {
            opening = b ∷ o.opening;
            rest = o.rest;
            parts = ap (λ (s : List ℕ). b ∷ s) o.parts;
            is_opening = is_opening;
            roots_in = subst (λ (n : ℕ). Roots n o.rest) moved o.roots_in;
          }
    ]

pub opens : (pieces : List Piece) (at : ℕ) (bytes : List ℕ) → Spell pieces bytes → Steps (outside Opening) pieces (outside Epilog) → Opens at bytes
opens [] at bytes spelled nests = absurd (let e : Opening ≡ Epilog = ap (λ (s : State). s.phase) nests in cc)
opens (byte b ∷ pieces) at bytes spelled nests =
    elim (chosen (is_in White b) (Some (outside Opening)) None (Some nests.0) nests.1) [
      | inl h ↦
          let bytes_are : bytes ≡ b ∷ spelled.1 = spelled.2 ∙ ap (λ (t : List ℕ). t ++ spelled.1) spelled.3.0 in
          let rest = opens pieces (at + 1) spelled.1 spelled.4 (next_is (outside Opening) nests.0 pieces h.1 nests.2) in
          subst (Opens at) (sym bytes_are) (opens_white at b spelled.1 h.0 spelled.3.1 rest)
      | inr h ↦ no_next nests.0 (Opens at bytes) h.1
    ]
opens (comment ∷ pieces) at bytes spelled nests =
    let rest = roots pieces (at + length spelled.0) spelled.1 spelled.4 (next_is (outside Prolog) nests.0 pieces nests.1 nests.2) in
    subst (Opens at) (sym spelled.2) (opens_none at (spelled.0 ++ spelled.1) (roots_more comment at spelled.0 spelled.1 spelled.3 (λ more are. are) rest))
opens (declaration ∷ pieces) at bytes spelled nests =
    let rest = roots pieces (at + length spelled.0) spelled.1 spelled.4 (next_is (outside Prolog) nests.0 pieces nests.1 nests.2) in
    subst (Opens at) (sym spelled.2) (record { opening = spelled.0; rest = spelled.1; parts = refl; is_opening = inr ([], spelled.0, refl, tt, spelled.3); roots_in = rest })
opens (start tag ∷ pieces) at bytes spelled nests =
    subst (Opens at) (sym spelled.2)
    (opens_none at (spelled.0 ++ spelled.1) (roots_start at tag spelled.0 spelled.1 pieces spelled.3 spelled.4 (next_is (open_state (tag.name ∷ [])) nests.0 pieces nests.1 nests.2)))
opens (whole tag ∷ pieces) at bytes spelled nests =
    subst (Opens at) (sym spelled.2)
    (opens_none at (spelled.0 ++ spelled.1) (roots_whole at tag spelled.0 spelled.1 pieces spelled.3 spelled.4 (next_is (outside Epilog) nests.0 pieces nests.1 nests.2)))
opens (finish name ∷ pieces) at bytes spelled nests = no_next nests.0 (Opens at bytes) nests.1

pub document_of : (bytes mark rest : List ℕ) → bytes ≡ mark ++ rest → IsMark mark → Opens (length mark) rest → (root : Node) × IsDocument bytes root
document_of bytes mark rest parts is_mark o =
    let r = o.roots_in in (
      r.root,
      record {
        mark = mark;
        opening = o.opening;
        before = r.before;
        text = r.text;
        behind = r.behind;
        parts = parts ∙ ap (λ (s : List ℕ). mark ++ s) (o.parts ∙ ap (λ (s : List ℕ). o.opening ++ s) r.parts);
        is_mark = is_mark;
        is_opening = o.is_opening;
        misc_before = r.misc_before;
        is_root = r.is_root;
        misc_behind = r.misc_behind;
      },
    )
