-- The machine goes through pieces exactly if they nest.
use Rattle.xtbml_subset.proofs.Names.{◌≡◌, ℕ, ◌<◌, Bool, true, false, cond, ltb, List, [], ◌∷◌, ◌++◌, length, Option, Some, None, refl, sym, ap, subst, ◌∙◌, arith, append-nil, append_assoc, ltb-true, lt-ltb, true≢false, bytes_eq-Decides, bytes_eq, fold, unwrap_or, AllByRecursion, drop, White, Phase, Opening, Prolog, Epilog, is_in, Piece, byte, comment, declaration, start, whole, finish, IsWhiteByte, State, outside, past, after_names, after_piece, Steps, IsWalked}
use Rattle.xtbml_subset.specs.Nesting.{open_behind, open_after, MayStart, MayFollow, IsNested}

-- ---- one more piece

fold_more : (names : Option (List (List ℕ))) (before : List Piece) (p : Piece) → fold open_behind names (before ++ p ∷ []) ≡ open_behind (fold open_behind names before) p
fold_more names [] p = refl
fold_more names (first ∷ before) p = fold_more (open_behind names first) before p

abbrev behind : List Piece → Piece → List Piece
behind before p = before ++ p ∷ []

open_more : (before : List Piece) (p : Piece) → open_after (behind before p) ≡ open_behind (open_after before) p
open_more before p = fold_more None before p

abbrev AreWhite : List Piece → Type 0
AreWhite before = AllByRecursion IsWhiteByte before

white_more : (before : List Piece) (p : Piece) → AreWhite before → IsWhiteByte p → AreWhite (behind before p)
white_more [] p are is = (is, tt)
white_more (first ∷ before) p are is = (are.0, white_more before p are.1 is)

white_less : (before : List Piece) (p : Piece) → AreWhite (behind before p) → AreWhite before × IsWhiteByte p
white_less [] p are = (tt, are.0)
white_less (first ∷ before) p are = let rest = white_less before p are.1 in ((are.0, rest.0), rest.1)

white_quiet : (names : Option (List (List ℕ))) (p : Piece) → IsWhiteByte p → open_behind names p ≡ names
white_quiet names (byte b) is = refl
white_quiet names comment is = absurd is
white_quiet names declaration is = absurd is
white_quiet names (start tag) is = absurd is
white_quiet names (whole tag) is = absurd is
white_quiet names (finish name) is = absurd is

fold_white : (names : Option (List (List ℕ))) (before : List Piece) → AreWhite before → fold open_behind names before ≡ names
fold_white names [] are = refl
fold_white names (first ∷ before) are =
    ap (λ (o : Option (List (List ℕ))). fold open_behind o before) (white_quiet names first are.0) ∙ fold_white names before are.1

none_open : (before : List Piece) → AreWhite before → open_after before ≡ None
none_open before are = fold_white None before are

-- ---- the state after some pieces

-- a tag stood
abbrev IsBegun : List Piece → Type 0
IsBegun before = (names : List (List ℕ)) × (open_after before ≡ Some names)

abbrev IsPhase : List Piece → Phase → Type 0
IsPhase before Opening = AreWhite before
IsPhase before Prolog = (AreWhite before → ⊥) × (open_after before ≡ None)
IsPhase before Epilog = IsBegun before

abbrev names_in : Option (List (List ℕ)) → List (List ℕ)
names_in names = unwrap_or names []

record Tied (before : List Piece) (phase : Phase) (names : List (List ℕ)) : Type 0 where
  open_is : names_in (open_after before) ≡ names
  phase_is : IsPhase before phase

-- a piece that is no tag leaves open what was
quiet : (before : List Piece) (p : Piece) (phase : Phase) (names : List (List ℕ)) → open_behind (open_after before) p ≡ open_after before
    → names_in (open_after before) ≡ names → IsPhase (behind before p) phase → Tied (behind before p) phase names
quiet before p phase names still open_is is = record { open_is = ap names_in (open_more before p ∙ still) ∙ open_is; phase_is = is }

none_kept : (before : List Piece) (p : Piece) → open_behind (open_after before) p ≡ open_after before → open_after before ≡ None → open_after (behind before p) ≡ None
none_kept before p still h = open_more before p ∙ still ∙ h

begun_kept : (before : List Piece) (p : Piece) → open_behind (open_after before) p ≡ open_after before → IsBegun before → IsBegun (behind before p)
begun_kept before p still h = (h.0, open_more before p ∙ still ∙ h.1)

begun_open : (before : List Piece) (names : List (List ℕ)) → IsBegun before → names_in (open_after before) ≡ names → open_after before ≡ Some names
begun_open before names h e = h.1 ∙ ap (λ (ns : List (List ℕ)). Some ns) (sym (ap names_in h.1) ∙ e)

begun_once : (before : List Piece) → IsBegun before → open_after before ≡ None → ⊥
begun_once before h none = absurd (let no : None ≡ Some h.0 = sym none ∙ h.1 in cc)

-- if something is open, a tag stood
inside_phase : (before : List Piece) (phase : Phase) (name : List ℕ) (names : List (List ℕ)) → Tied before phase (name ∷ names) → phase ≡ Epilog
inside_phase before Opening name names t = absurd (let none : name ∷ names ≡ [] = sym t.open_is ∙ ap names_in (none_open before t.phase_is) in cc)
inside_phase before Prolog name names t = absurd (let none : name ∷ names ≡ [] = sym t.open_is ∙ ap names_in t.phase_is.1 in cc)
inside_phase before Epilog name names t = refl

byte_phase : (before : List Piece) (b : ℕ) (phase : Phase) → is_in White b ≡ true → IsPhase before phase → IsPhase (behind before (byte b)) phase
byte_phase before b Opening white is = white_more before (byte b) is white
byte_phase before b Prolog white is = (λ are. is.0 (white_less before (byte b) are).0, none_kept before (byte b) refl is.1)
byte_phase before b Epilog white is = begun_kept before (byte b) refl is

comment_phase : (before : List Piece) (phase : Phase) → IsPhase before phase → IsPhase (behind before comment) (past phase)
comment_phase before Opening is = (λ are. (white_less before comment are).1, none_kept before comment refl (none_open before is))
comment_phase before Prolog is = (λ are. (white_less before comment are).1, none_kept before comment refl is.1)
comment_phase before Epilog is = begun_kept before comment refl is

-- ---- a step of the machine

abbrev GoesOn : List Piece → Piece → Option State → Type 0
GoesOn before p None = MayFollow before p → ⊥
GoesOn before p (Some next) = MayFollow before p × Tied (behind before p) next.phase next.names

may_begin : (before : List Piece) → open_after before ≡ None → MayStart (open_after before)
may_begin before none = subst MayStart (sym none) (omega arith, λ over. absurd cc)

begun : (before : List Piece) (p : Piece) (names : List (List ℕ)) → open_behind (open_after before) p ≡ Some names → Tied (behind before p) Epilog names
begun before p names e = record { open_is = ap names_in (open_more before p ∙ e); phase_is = (names, open_more before p ∙ e) }

begun_root : (before : List Piece) (tag_name : List ℕ) → names_in (open_after before) ≡ [] → Some (tag_name ∷ names_in (open_after before)) ≡ Some (tag_name ∷ [])
begun_root before tag_name none = ap (λ (ns : List (List ℕ)). Some (tag_name ∷ ns)) none

outside_step : (before : List Piece) (phase : Phase) (p : Piece) → Tied before phase [] → GoesOn before p (after_names phase [] p)
outside_step before phase (byte b) t =
    let P : Bool → Type 0 = λ w. is_in White b ≡ w → GoesOn before (byte b) (cond w (Some (outside phase)) None) in
    let both : P (is_in White b) = elim (is_in White b) as P [
      | true ↦ λ white. (λ none. white, quiet before (byte b) phase [] refl t.open_is (byte_phase before b phase white t.phase_is))
      | false ↦ λ other. λ may. true≢false (sym (may t.open_is) ∙ other)
    ] in
    both refl
outside_step before phase comment t = (tt, quiet before comment (past phase) [] refl t.open_is (comment_phase before phase t.phase_is))
outside_step before Opening declaration t =
    (t.phase_is, quiet before declaration Prolog [] refl t.open_is (λ are. (white_less before declaration are).1, none_kept before declaration refl (none_open before t.phase_is)))
outside_step before Prolog declaration t = λ may. t.phase_is.0 may
outside_step before Epilog declaration t = λ may. begun_once before t.phase_is (none_open before may)
outside_step before Opening (start tag) t =
    (may_begin before (none_open before t.phase_is), begun before (start tag) (tag.name ∷ []) (begun_root before tag.name t.open_is))
outside_step before Prolog (start tag) t = (may_begin before t.phase_is.1, begun before (start tag) (tag.name ∷ []) (begun_root before tag.name t.open_is))
outside_step before Epilog (start tag) t = λ may. may.1 (begun_open before [] t.phase_is t.open_is)
outside_step before Opening (whole tag) t =
    (may_begin before (none_open before t.phase_is), begun before (whole tag) [] (ap (λ (ns : List (List ℕ)). Some ns) t.open_is))
outside_step before Prolog (whole tag) t = (may_begin before t.phase_is.1, begun before (whole tag) [] (ap (λ (ns : List (List ℕ)). Some ns) t.open_is))
outside_step before Epilog (whole tag) t = λ may. may.1 (begun_open before [] t.phase_is t.open_is)
outside_step before phase (finish name) t = λ may. absurd (let no : name ∷ may.0 ≡ [] = sym (ap names_in may.1) ∙ t.open_is in cc)

some_open : (before : List Piece) (name : List ℕ) (names : List (List ℕ)) → names_in (open_after before) ≡ name ∷ names → names_in (open_after before) ≡ [] → ⊥
some_open before name names e none = absurd (let no : name ∷ names ≡ [] = sym e ∙ none in cc)

may_nest : (before : List Piece) (name : List ℕ) (names : List (List ℕ)) → names_in (open_after before) ≡ name ∷ names → ltb (length (name ∷ names)) 64 ≡ true → MayStart (open_after before)
may_nest before name names e room =
    let low : length (name ∷ names) < 64 = ltb-true (length (name ∷ names)) 64 room in
    (subst (λ (ns : List (List ℕ)). length ns < 64) (sym e) low, λ over. some_open before name names e (ap names_in over))

too_deep : (before : List Piece) (name : List ℕ) (names : List (List ℕ)) → names_in (open_after before) ≡ name ∷ names → ltb (length (name ∷ names)) 64 ≡ false
    → MayStart (open_after before) → ⊥
too_deep before name names e full may =
    let low : length (name ∷ names) < 64 = subst (λ (ns : List (List ℕ)). length ns < 64) e may.0 in
    true≢false (sym (lt-ltb (length (name ∷ names)) 64 low) ∙ full)

heads : (a b : List ℕ) (more others : List (List ℕ)) → a ∷ more ≡ b ∷ others → a ≡ b
heads a b more others e = cc

inside_step : (before : List Piece) (name : List ℕ) (names : List (List ℕ)) (p : Piece) → Tied before Epilog (name ∷ names) → GoesOn before p (after_names Epilog (name ∷ names) p)
inside_step before name names (byte b) t =
    (λ none. absurd (some_open before name names t.open_is none), quiet before (byte b) Epilog (name ∷ names) refl t.open_is (begun_kept before (byte b) refl t.phase_is))
inside_step before name names comment t = (tt, quiet before comment Epilog (name ∷ names) refl t.open_is (begun_kept before comment refl t.phase_is))
inside_step before name names declaration t = λ may. begun_once before t.phase_is (none_open before may)
inside_step before name names (start tag) t =
    let next : State = record { phase = Epilog; names = tag.name ∷ name ∷ names } in
    let P : Bool → Type 0 = λ w. ltb (length (name ∷ names)) 64 ≡ w → GoesOn before (start tag) (cond w (Some next) None) in
    let both : P (ltb (length (name ∷ names)) 64) = elim (ltb (length (name ∷ names)) 64) as P [
      | true ↦ λ room.
          (may_nest before name names t.open_is room, begun before (start tag) (tag.name ∷ name ∷ names) (ap (λ (ns : List (List ℕ)). Some (tag.name ∷ ns)) t.open_is))
      | false ↦ λ full. λ may. too_deep before name names t.open_is full may
    ] in
    both refl
inside_step before name names (whole tag) t =
    let next : State = record { phase = Epilog; names = name ∷ names } in
    let P : Bool → Type 0 = λ w. ltb (length (name ∷ names)) 64 ≡ w → GoesOn before (whole tag) (cond w (Some next) None) in
    let both : P (ltb (length (name ∷ names)) 64) = elim (ltb (length (name ∷ names)) 64) as P [
      | true ↦ λ room. (may_nest before name names t.open_is room, begun before (whole tag) (name ∷ names) (ap (λ (ns : List (List ℕ)). Some ns) t.open_is))
      | false ↦ λ full. λ may. too_deep before name names t.open_is full may
    ] in
    both refl
inside_step before name names (finish last) t =
    let next : State = record { phase = Epilog; names = names } in
    let some : open_after before ≡ Some (name ∷ names) = begun_open before (name ∷ names) t.phase_is t.open_is in
    let P : Bool → Type 0 = λ w. bytes_eq last name ≡ w → GoesOn before (finish last) (cond w (Some next) None) in
    let both : P (bytes_eq last name) = elim (bytes_eq last name) as P [
      | true ↦ λ e.
          let same : last ≡ name = (bytes_eq-Decides last name).0 e in
          ((names, some ∙ ap (λ (n : List ℕ). Some (n ∷ names)) (sym same)), begun before (finish last) names (ap (λ (ns : List (List ℕ)). Some (drop 1 ns)) t.open_is))
      | false ↦ λ e. λ may.
          let same : last ≡ name = heads last name may.0 names (sym (ap names_in may.1) ∙ t.open_is) in
          true≢false (sym ((bytes_eq-Decides last name).1 same) ∙ e)
    ] in
    both refl

step : (before : List Piece) (phase : Phase) (names : List (List ℕ)) (p : Piece) → Tied before phase names → GoesOn before p (after_names phase names p)
step before phase [] p t = outside_step before phase p t
step before phase (name ∷ names) p t =
    let e : phase ≡ Epilog = inside_phase before phase name names t in
    let here : Tied before Epilog (name ∷ names) = subst (λ (f : Phase). Tied before f (name ∷ names)) e t in
    subst (λ (f : Phase). GoesOn before p (after_names f (name ∷ names) p)) (sym e) (inside_step before name names p here)

-- ---- all pieces

-- each may follow all before it, by recursion
abbrev Follow : List Piece → List Piece → Type 0
Follow before [] = Unit {0}
Follow before (p ∷ pieces) = MayFollow before p × Follow (behind before p) pieces

follows : (pieces before : List Piece) (state end : State) → Tied before state.phase state.names → Steps state pieces end → Follow before pieces
follows [] before state end t steps = tt
follows (p ∷ pieces) before state end t steps =
    let goes : GoesOn before p (Some steps.0) = subst (GoesOn before p) steps.1 (step before state.phase state.names p t) in
    (goes.0, follows pieces (behind before p) steps.0 end goes.1 steps.2)

stepped : (pieces before : List Piece) (state : State) → Tied before state.phase state.names → Follow before pieces → (end : State) × Steps state pieces end
stepped [] before state t follow = (state, refl)
stepped (p ∷ pieces) before state t follow =
    let P : Option State → Type 0 = λ o. after_piece state p ≡ o → GoesOn before p o → (end : State) × Steps state (p ∷ pieces) end in
    let both : P (after_piece state p) = elim (after_piece state p) as P [
      | None ↦ λ e. λ never. absurd (never follow.0)
      | Some next ↦ λ e. λ goes. let r = stepped pieces (behind before p) next goes.1 follow.1 in (r.0, (next, e, r.1))
    ] in
    both refl (step before state.phase state.names p t)

abbrev Nest : List Piece → List Piece → Type 0
Nest front pieces = (before after : List Piece) (p : Piece) → pieces ≡ before ++ p ∷ after → MayFollow (front ++ before) p

tails : (a b : Piece) (more others : List Piece) → a ∷ more ≡ b ∷ others → (a ≡ b) × (more ≡ others)
tails a b more others e = (cc, cc)

nest_from : (pieces front : List Piece) → Follow front pieces → Nest front pieces
nest_from [] front follow [] after p e = absurd cc
nest_from [] front follow (b ∷ before) after p e = absurd cc
nest_from (q ∷ pieces) front follow [] after p e =
    subst (MayFollow (front ++ [])) (tails q p pieces after e).0 (subst (λ (s : List Piece). MayFollow s q) (sym (append-nil front)) follow.0)
nest_from (q ∷ pieces) front follow (b ∷ before) after p e =
    let same = tails q b pieces (before ++ p ∷ after) e in
    subst (λ (x : Piece). MayFollow (front ++ x ∷ before) p) same.0
    (subst (λ (s : List Piece). MayFollow s p) (append_assoc front (q ∷ []) before) (nest_from pieces (behind front q) follow.1 before after p same.1))

follow_from : (pieces front : List Piece) → Nest front pieces → Follow front pieces
follow_from [] front nest = tt
follow_from (q ∷ pieces) front nest = (
  subst (λ (s : List Piece). MayFollow s q) (append-nil front) (nest [] pieces q refl),
  follow_from pieces (behind front q)
      (λ before after p e. subst (λ (s : List Piece). MayFollow s p) (sym (append_assoc front (q ∷ []) before)) (nest (q ∷ before) after p (ap (λ (ps : List Piece). q ∷ ps) e))),
)

at_start : Tied [] Opening []
at_start = record { open_is = refl; phase_is = tt }

pub nested_by_walk : (bytes : List ℕ) (end : State) → IsWalked bytes end → IsNested bytes
nested_by_walk bytes end w = record {
  mark = w.mark;
  rest = w.rest;
  pieces = w.pieces;
  parts = w.parts;
  is_mark = w.is_mark;
  spelled = w.spelled;
  nest = nest_from w.pieces [] (follows w.pieces [] (outside Opening) end at_start w.steps);
}

pub walk_by_nested : (bytes : List ℕ) → IsNested bytes → (end : State) × IsWalked bytes end
walk_by_nested bytes n =
    let s = stepped n.pieces [] (outside Opening) at_start (follow_from n.pieces [] n.nest) in
    (s.0, record { mark = n.mark; rest = n.rest; pieces = n.pieces; parts = n.parts; is_mark = n.is_mark; spelled = n.spelled; steps = s.1 })
