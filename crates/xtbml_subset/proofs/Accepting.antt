-- The walk goes through each document to its end.
use Rattle.xtbml_subset.proofs.Names.{◌≡◌, ℕ, zero, suc, ◌+◌, ◌<◌, true, false, eqb, ltb, List, [], ◌∷◌, ◌++◌, length, Some, None, refl, sym, ap, subst, ◌∙◌, inl, inr, append_assoc, arith, lt-ltb, append-nil, bytes_eq-Decides, bytes_eq, White, Text, Phase, Opening, Prolog, Epilog, is_in, InClass, Tag, Piece, byte, comment, declaration, start, whole, finish, IsPiece, IsMark, Spell, State, outside, past, after_piece, walk_at, walk_from, after_mark, fault_place, fault_at, Content, nothing, letter, remark, element, IsElement, IsContent, IsMisc, IsDocumentOpening, Node, IsDocument}
use Rattle.xtbml_subset.proofs.Misc.{AreMisc, are_misc}
use Rattle.xtbml_subset.proofs.LexAgain.{at_white, white_is_text}
use Rattle.xtbml_subset.proofs.PieceAgain.{piece_again}
use Rattle.xtbml_subset.proofs.Walking.{walk_step}

abbrev inside_of : List ℕ → List (List ℕ) → State
inside_of name names = record { phase = Epilog; names = name ∷ names }

pub piece_walk : (piece : Piece) (text rest : List ℕ) (state next : State) → IsPiece piece text → after_piece state piece ≡ Some next
    → walk_at state (text ++ rest) ≡ walk_at next rest
piece_walk piece text rest state next is goes = walk_step (text ++ rest) piece rest state next (piece_again piece text rest is) goes

same_name : (name : List ℕ) → bytes_eq name name ≡ true
same_name name = (bytes_eq-Decides name name).1 refl

start_goes : (tag : Tag) (name : List ℕ) (names : List (List ℕ)) → length (name ∷ names) < 64
    → after_piece (inside_of name names) (start tag) ≡ Some (inside_of tag.name (name ∷ names))
start_goes tag name names lt = let t : ltb (length (name ∷ names)) 64 ≡ true = lt-ltb (length (name ∷ names)) 64 lt in rw t refl

whole_goes : (tag : Tag) (name : List ℕ) (names : List (List ℕ)) → length (name ∷ names) < 64
    → after_piece (inside_of name names) (whole tag) ≡ Some (inside_of name names)
whole_goes tag name names lt = let t : ltb (length (name ∷ names)) 64 ≡ true = lt-ltb (length (name ∷ names)) 64 lt in rw t refl

finish_goes : (name : List ℕ) (names : List (List ℕ)) → after_piece (inside_of name names) (finish name) ≡ Some (record { phase = Epilog; names = names })
finish_goes name names = rw (same_name name) refl

letter_walk : (b : ℕ) (rest : List ℕ) (name : List ℕ) (names : List (List ℕ)) → is_in Text b ≡ true
    → walk_at (inside_of name names) (b ∷ rest) ≡ walk_at (inside_of name names) rest
letter_walk b rest name names is = piece_walk (byte b) (b ∷ []) rest (inside_of name names) (inside_of name names) (refl, is) refl

three : (opening inside closing rest : List ℕ) → (opening ++ (inside ++ closing)) ++ rest ≡ opening ++ (inside ++ (closing ++ rest))
three opening inside closing rest = simp append_assoc

pub content_walk : (levels : ℕ) (content : Content) (at : ℕ) (bytes rest : List ℕ) (name : List ℕ) (names : List (List ℕ)) → IsContent levels content at bytes
    → levels + length (name ∷ names) ≡ 64 → walk_at (inside_of name names) (bytes ++ rest) ≡ walk_at (inside_of name names) rest
content_walk levels nothing at bytes rest name names is room = subst (λ (s : List ℕ). walk_at (inside_of name names) (s ++ rest) ≡ walk_at (inside_of name names) rest) (sym is) refl
content_walk levels (letter b more) at bytes rest name names is room =
    let W = walk_at (inside_of name names) in
    ap (λ (s : List ℕ). W (s ++ rest)) is.1 ∙ letter_walk b (is.0 ++ rest) name names is.2 ∙ content_walk levels more (at + 1) is.0 rest name names is.3 room
content_walk levels (remark more) at bytes rest name names is room =
    let state = inside_of name names in
    ap (λ (s : List ℕ). walk_at state (s ++ rest)) is.2 ∙ ap (walk_at state) (append_assoc is.0 is.1 rest)
    ∙ piece_walk comment is.0 (is.1 ++ rest) state state is.3 refl
    ∙ content_walk levels more (at + length is.0) is.1 rest name names is.4 room
content_walk zero (element place tag inner more) at bytes rest name names is room = absurd is
content_walk (suc levels) (element place tag inner more) at bytes rest name names is room =
    let state = inside_of name names in
    let lt : length (name ∷ names) < 64 = omega arith in
    let deeper : levels + length (tag.name ∷ name ∷ names) ≡ 64 = omega arith in
    let text = is.0 in
    let behind = is.1 ++ rest in
    let over : walk_at state (text ++ behind) ≡ walk_at state behind = elim is.3.1 [
      | inl w ↦ piece_walk (whole tag) text behind state state w.0 (whole_goes tag name names lt)
      | inr w ↦
          let opened = inside_of tag.name (name ∷ names) in
          ap (λ (s : List ℕ). walk_at state (s ++ behind)) w.3 ∙ ap (walk_at state) (three w.0 w.1 w.2 behind)
          ∙ piece_walk (start tag) w.0 (w.1 ++ (w.2 ++ behind)) state opened w.4 (start_goes tag name names lt)
          ∙ content_walk levels inner (at + length w.0) w.1 (w.2 ++ behind) tag.name (name ∷ names) w.5 deeper
          ∙ piece_walk (finish tag.name) w.2 behind opened state w.6 (finish_goes tag.name (name ∷ names))
    ] in
    ap (λ (s : List ℕ). walk_at state (s ++ rest)) is.2 ∙ ap (walk_at state) (append_assoc text is.1 rest)
    ∙ over
    ∙ content_walk (suc levels) more (at + length text) is.1 rest name names is.4 room

-- ---- around the root

misc_phase : List Piece → Phase → Phase
misc_phase [] phase = phase
misc_phase (comment ∷ pieces) phase = misc_phase pieces (past phase)
misc_phase (byte b ∷ pieces) phase = misc_phase pieces phase
misc_phase (declaration ∷ pieces) phase = phase
misc_phase (start tag ∷ pieces) phase = phase
misc_phase (whole tag ∷ pieces) phase = phase
misc_phase (finish name ∷ pieces) phase = phase

white_goes : (phase : Phase) (b : ℕ) → is_in White b ≡ true → after_piece (outside phase) (byte b) ≡ Some (outside phase)
white_goes phase b white = rw white refl

misc_walk : (pieces : List Piece) (bytes rest : List ℕ) (phase : Phase) → Spell pieces bytes → AreMisc pieces
    → walk_at (outside phase) (bytes ++ rest) ≡ walk_at (outside (misc_phase pieces phase)) rest
unfolding misc_phase
misc_walk [] bytes rest phase spelled are = ap (λ (s : List ℕ). walk_at (outside phase) (s ++ rest)) spelled
misc_walk (byte b ∷ pieces) bytes rest phase spelled are =
    ap (λ (s : List ℕ). walk_at (outside phase) (s ++ rest)) spelled.2 ∙ ap (walk_at (outside phase)) (append_assoc spelled.0 spelled.1 rest)
    ∙ piece_walk (byte b) spelled.0 (spelled.1 ++ rest) (outside phase) (outside phase) spelled.3 (white_goes phase b are.0)
    ∙ misc_walk pieces spelled.1 rest phase spelled.4 are.1
misc_walk (comment ∷ pieces) bytes rest phase spelled are =
    ap (λ (s : List ℕ). walk_at (outside phase) (s ++ rest)) spelled.2 ∙ ap (walk_at (outside phase)) (append_assoc spelled.0 spelled.1 rest)
    ∙ piece_walk comment spelled.0 (spelled.1 ++ rest) (outside phase) (outside (past phase)) spelled.3 refl
    ∙ misc_walk pieces spelled.1 rest (past phase) spelled.4 are
misc_walk (declaration ∷ pieces) bytes rest phase spelled are = absurd are
misc_walk (start tag ∷ pieces) bytes rest phase spelled are = absurd are
misc_walk (whole tag ∷ pieces) bytes rest phase spelled are = absurd are
misc_walk (finish name ∷ pieces) bytes rest phase spelled are = absurd are

-- the root may still come
abbrev MayBegin : Phase → Type 0
MayBegin Opening = Unit {0}
MayBegin Prolog = Unit {0}
MayBegin Epilog = ⊥

past_begins : (phase : Phase) → MayBegin phase → MayBegin (past phase)
past_begins Opening may = tt
past_begins Prolog may = tt
past_begins Epilog may = absurd may

misc_begins : (pieces : List Piece) (phase : Phase) → MayBegin phase → MayBegin (misc_phase pieces phase)
unfolding misc_phase
misc_begins [] phase may = may
misc_begins (comment ∷ pieces) phase may = misc_begins pieces (past phase) (past_begins phase may)
misc_begins (byte b ∷ pieces) phase may = misc_begins pieces phase may
misc_begins (declaration ∷ pieces) phase may = may
misc_begins (start tag ∷ pieces) phase may = may
misc_begins (whole tag ∷ pieces) phase may = may
misc_begins (finish name ∷ pieces) phase may = may

misc_ends : (pieces : List Piece) → misc_phase pieces Epilog ≡ Epilog
unfolding misc_phase
misc_ends [] = refl
misc_ends (comment ∷ pieces) = misc_ends pieces
misc_ends (byte b ∷ pieces) = misc_ends pieces
misc_ends (declaration ∷ pieces) = refl
misc_ends (start tag ∷ pieces) = refl
misc_ends (whole tag ∷ pieces) = refl
misc_ends (finish name ∷ pieces) = refl

begin_start : (phase : Phase) (tag : Tag) → MayBegin phase → after_piece (outside phase) (start tag) ≡ Some (inside_of tag.name [])
begin_start Opening tag may = refl
begin_start Prolog tag may = refl
begin_start Epilog tag may = absurd may

begin_whole : (phase : Phase) (tag : Tag) → MayBegin phase → after_piece (outside phase) (whole tag) ≡ Some (outside Epilog)
begin_whole Opening tag may = refl
begin_whole Prolog tag may = refl
begin_whole Epilog tag may = absurd may

root_walk : (root : Node) (at : ℕ) (text rest : List ℕ) (phase : Phase) → IsElement (λ place inside. IsContent 63 root.inner place inside) at root.at root.tag root.inner text
    → MayBegin phase → walk_at (outside phase) (text ++ rest) ≡ walk_at (outside Epilog) rest
root_walk root at text rest phase is may =
    elim is.1 [
      | inl w ↦ piece_walk (whole root.tag) text rest (outside phase) (outside Epilog) w.0 (begin_whole phase root.tag may)
      | inr w ↦
          let opened = inside_of root.tag.name [] in
          ap (λ (s : List ℕ). walk_at (outside phase) (s ++ rest)) w.3 ∙ ap (walk_at (outside phase)) (three w.0 w.1 w.2 rest)
          ∙ piece_walk (start root.tag) w.0 (w.1 ++ (w.2 ++ rest)) (outside phase) opened w.4 (begin_start phase root.tag may)
          ∙ content_walk 63 root.inner (at + length w.0) w.1 (w.2 ++ rest) root.tag.name [] w.5 refl
          ∙ piece_walk (finish root.tag.name) w.2 rest opened (outside Epilog) w.6 (finish_goes root.tag.name [])
    ]

space_walk : (space rest : List ℕ) (phase : Phase) → InClass White space → walk_at (outside phase) (space ++ rest) ≡ walk_at (outside phase) rest
space_walk [] rest phase white = refl
space_walk (b ∷ space) rest phase white =
    piece_walk (byte b) (b ∷ []) (space ++ rest) (outside phase) (outside phase) (refl, white_is_text b white.0) (white_goes phase b white.0)
    ∙ space_walk space rest phase white.1

opening_walk : (opening rest : List ℕ) → IsDocumentOpening opening → (phase : Phase) × MayBegin phase × (walk_at (outside Opening) (opening ++ rest) ≡ walk_at (outside phase) rest)
opening_walk opening rest (inl none) = (Opening, tt, ap (λ (s : List ℕ). walk_at (outside Opening) (s ++ rest)) none)
opening_walk opening rest (inr h) = (
  Prolog,
  tt,
  ap (λ (s : List ℕ). walk_at (outside Opening) (s ++ rest)) h.2 ∙ ap (walk_at (outside Opening)) (append_assoc h.0 h.1 rest)
      ∙ space_walk h.0 (h.1 ++ rest) Opening h.3
      ∙ piece_walk declaration h.1 rest (outside Opening) (outside Prolog) h.4 refl,
)

pub unmarked_walk : (opening before text behind : List ℕ) (root : Node) (at : ℕ) → IsDocumentOpening opening → IsMisc before
    → IsElement (λ place inside. IsContent 63 root.inner place inside) at root.at root.tag root.inner text → IsMisc behind
    → walk_at (outside Opening) (opening ++ (before ++ (text ++ behind))) ≡ (outside Epilog, [])
unfolding walk_from
unmarked_walk opening before text behind root at is_opening misc_before is_root misc_behind =
    let o = opening_walk opening (before ++ (text ++ behind)) is_opening in
    let begins = misc_begins misc_before.0 o.0 o.1 in
    let last : walk_at (outside Epilog) behind ≡ walk_at (outside Epilog) [] =
    ap (walk_at (outside Epilog)) (sym (append-nil behind)) ∙ misc_walk misc_behind.0 behind [] Epilog misc_behind.1 (are_misc misc_behind.0 misc_behind.2)
    ∙ ap (λ phase. walk_at (outside phase) []) (misc_ends misc_behind.0) in
    o.2 ∙ misc_walk misc_before.0 before (text ++ behind) o.0 misc_before.1 (are_misc misc_before.0 misc_before.2)
    ∙ root_walk root at text behind (misc_phase misc_before.0 o.0) is_root begins ∙ last

-- ---- EF BB BF

-- the bytes don't begin with EF
abbrev pub NoMark : List ℕ → Type 0
NoMark [] = Unit {0}
NoMark (b ∷ rest) = eqb b 239 ≡ false

pub no_mark_after : (bytes : List ℕ) → NoMark bytes → after_mark bytes ≡ bytes
no_mark_after [] h = refl
no_mark_after (b ∷ rest) h = rw h refl

pub white_no_mark : (b : ℕ) → is_in White b ≡ true → eqb b 239 ≡ false
white_no_mark b white = at_white (λ n. eqb n 239) refl refl refl refl b white

pub begins_no_mark : (text more rest : List ℕ) → text ≡ 60 ∷ more → NoMark (text ++ rest)
begins_no_mark text more rest e = subst (λ (s : List ℕ). NoMark (s ++ rest)) (sym e) refl

misc_no_mark : (pieces : List Piece) (bytes rest : List ℕ) → Spell pieces bytes → AreMisc pieces → NoMark rest → NoMark (bytes ++ rest)
misc_no_mark [] bytes rest spelled are h = subst (λ (s : List ℕ). NoMark (s ++ rest)) (sym spelled) h
misc_no_mark (byte b ∷ pieces) bytes rest spelled are h =
    subst (λ (s : List ℕ). NoMark (s ++ rest)) (sym (spelled.2 ∙ ap (λ (t : List ℕ). t ++ spelled.1) spelled.3.0)) (white_no_mark b are.0)
misc_no_mark (comment ∷ pieces) bytes rest spelled are h =
    begins_no_mark bytes (33 ∷ 45 ∷ 45 ∷ (spelled.3.0 ++ spelled.1)) rest (spelled.2 ∙ ap (λ (t : List ℕ). t ++ spelled.1) spelled.3.1)
misc_no_mark (declaration ∷ pieces) bytes rest spelled are h = absurd are
misc_no_mark (start tag ∷ pieces) bytes rest spelled are h = absurd are
misc_no_mark (whole tag ∷ pieces) bytes rest spelled are h = absurd are
misc_no_mark (finish name ∷ pieces) bytes rest spelled are h = absurd are

space_no_mark : (space text rest : List ℕ) → InClass White space → IsPiece declaration text → NoMark ((space ++ text) ++ rest)
space_no_mark [] text rest white is = begins_no_mark text (63 ∷ 120 ∷ 109 ∷ 108 ∷ (is.space ++ (is.inside ++ 63 ∷ 62 ∷ []))) rest is.parts
space_no_mark (b ∷ space) text rest white is = white_no_mark b white.0

opening_no_mark : (opening rest : List ℕ) → IsDocumentOpening opening → NoMark rest → NoMark (opening ++ rest)
opening_no_mark opening rest (inl none) h = subst (λ (s : List ℕ). NoMark (s ++ rest)) (sym none) h
opening_no_mark opening rest (inr o) h = subst (λ (s : List ℕ). NoMark (s ++ rest)) (sym o.2) (space_no_mark o.0 o.1 rest o.3 o.4)

element_no_mark : (root : Node) (at : ℕ) (text rest : List ℕ) → IsElement (λ place inside. IsContent 63 root.inner place inside) at root.at root.tag root.inner text → NoMark (text ++ rest)
element_no_mark root at text rest is =
    elim is.1 [
      | inl w ↦ begins_no_mark text (root.tag.name ++ (w.0.attributes ++ (w.0.space ++ 47 ∷ 62 ∷ []))) rest w.0.parts
      | inr w ↦
          begins_no_mark text ((root.tag.name ++ (w.4.attributes ++ (w.4.space ++ 62 ∷ []))) ++ (w.1 ++ w.2)) rest (w.3 ∙ ap (λ (t : List ℕ). t ++ (w.1 ++ w.2)) w.4.parts)
    ]

mark_after : (mark rest : List ℕ) → IsMark mark → NoMark rest → after_mark (mark ++ rest) ≡ rest
mark_after [] rest is h = no_mark_after rest h
mark_after (b ∷ mark) rest is h = ap (λ (s : List ℕ). after_mark (s ++ rest)) is

pub document_accepted : (bytes : List ℕ) (root : Node) → IsDocument bytes root → fault_at bytes ≡ None
unfolding fault_at
document_accepted bytes root d =
    let rest = d.opening ++ (d.before ++ (d.text ++ d.behind)) in
    let at = length d.mark + length d.opening + length d.before in
    let clear = opening_no_mark d.opening (d.before ++ (d.text ++ d.behind)) d.is_opening
    (misc_no_mark d.misc_before.0 d.before (d.text ++ d.behind) d.misc_before.1 (are_misc d.misc_before.0 d.misc_before.2) (element_no_mark root at d.text d.behind d.is_root)) in
    let unmarked : after_mark bytes ≡ rest = ap after_mark d.parts ∙ mark_after d.mark rest d.is_mark clear in
    let walked = ap (walk_at (outside Opening)) unmarked ∙ unmarked_walk d.opening d.before d.text d.behind root at d.is_opening d.misc_before d.is_root d.misc_behind in
    ap (λ end. fault_place (length bytes) end) walked
