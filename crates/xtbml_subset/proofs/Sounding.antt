-- How far the walk goes is how far the bytes nest.
use Rattle.xtbml_subset.proofs.Names.{◌≡◌, ℕ, zero, suc, ◌+◌, ◌-◌, ◌<◌, ◌≤◌, List, [], ◌∷◌, ◌++◌, length, take, drop, Option, Some, None, refl, sym, ap, subst, ◌∙◌, inl, inr, append_assoc, arith, length-append, take-append-drop, take_at, length-take, append-nil, unwrap_or, Phase, Opening, Prolog, Epilog, White, is_in, Piece, byte, comment, declaration, start, whole, finish, IsPiece, IsMark, Spell, byte_at, piece_at, ◌>>=◌, State, outside, after_piece, Steps, walk_at, after_mark, fault_place, fault_at, Node, IsDocument, IsLongestNested}
use Rattle.xtbml_subset.proofs.Options.{bind_some, chosen, some_is}
use Rattle.xtbml_subset.proofs.Lexing.{byte_takes}
use Rattle.xtbml_subset.proofs.Behind.{behind_shorter}
use Rattle.xtbml_subset.proofs.PieceReading.{piece_takes, piece_behind}
use Rattle.xtbml_subset.proofs.Walking.{walk_step, walk_stuck, walk_end}
use Rattle.xtbml_subset.proofs.Accepting.{piece_walk, NoMark, no_mark_after, white_no_mark, begins_no_mark}
use Rattle.xtbml_subset.proofs.Building.{opens, document_of}
use Rattle.xtbml_subset.proofs.Nested.{nested_by_walk, walk_by_nested}

-- the pieces that the walk went through
pub record Walked (state : State) (bytes : List ℕ) (end : State × List ℕ) : Type 0 where
  pub pieces : List Piece
  pub text : List ℕ
  pub parts : bytes ≡ text ++ end.1
  pub spelled : Spell pieces text
  pub nests : Steps state pieces end.0

walked_none : (state : State) (bytes : List ℕ) → Walked state bytes (state, bytes)
walked_none state bytes = record { pieces = []; text = []; parts = refl; spelled = refl; nests = refl }

walked_more : (state next : State) (bytes : List ℕ) (piece : Piece) (rest : List ℕ) (end : State × List ℕ) → piece_at bytes ≡ Some (piece, rest)
    → after_piece state piece ≡ Some next → Walked next rest end → Walked state bytes end
walked_more state next bytes piece rest end e goes w =
    let t = piece_takes bytes piece rest e in
    record {
      pieces = piece ∷ w.pieces;
      text = t.text ++ w.text;
      parts = t.parts ∙ ap (λ (s : List ℕ). t.text ++ s) w.parts ∙ sym (append_assoc t.text w.text end.1);
      spelled = (t.text, w.text, refl, t.is_piece, w.spelled);
      nests = (next, goes, w.nests);
    }

walked_piece : (n : ℕ) (bytes : List ℕ) (state : State) (x : Piece × List ℕ) → piece_at bytes ≡ Some x → length x.1 ≤ n
    → ((next : State) → Walked next x.1 (walk_at next x.1)) → Walked state bytes (walk_at state bytes)
walked_piece n bytes state x e le others =
    let P : Option State → Type 0 = λ o. after_piece state x.0 ≡ o → Walked state bytes (walk_at state bytes) in
    let both : P (after_piece state x.0) = elim (after_piece state x.0) as P [
      | None ↦ λ stops. subst (Walked state bytes) (sym (walk_stuck bytes x.0 x.1 state e stops)) (walked_none state bytes)
      | Some next ↦ λ goes. subst (Walked state bytes) (sym (walk_step bytes x.0 x.1 state next e goes)) (walked_more state next bytes x.0 x.1 (walk_at next x.1) e goes (others next))
    ] in
    both refl

walked_upto : (n : ℕ) (bytes : List ℕ) (state : State) → length bytes ≤ n → Walked state bytes (walk_at state bytes)
walked_upto zero bytes state le =
    let P : Option (Piece × List ℕ) → Type 0 = λ o. piece_at bytes ≡ o → Walked state bytes (walk_at state bytes) in
    let both : P (piece_at bytes) = elim (piece_at bytes) as P [
      | None ↦ λ e. subst (Walked state bytes) (sym (walk_end bytes state e)) (walked_none state bytes)
      | Some x ↦ λ e. absurd (let shorter : length x.1 < length bytes = behind_shorter bytes x.1 (piece_behind bytes x.0 x.1 e) in omega arith)
    ] in
    both refl
walked_upto (suc n) bytes state le =
    let P : Option (Piece × List ℕ) → Type 0 = λ o. piece_at bytes ≡ o → Walked state bytes (walk_at state bytes) in
    let both : P (piece_at bytes) = elim (piece_at bytes) as P [
      | None ↦ λ e. subst (Walked state bytes) (sym (walk_end bytes state e)) (walked_none state bytes)
      | Some x ↦ λ e.
          let shorter : length x.1 < length bytes = behind_shorter bytes x.1 (piece_behind bytes x.0 x.1 e) in
          let low : length x.1 ≤ n = omega arith in
          walked_piece n bytes state x e low (λ next. walked_upto n x.1 next low)
    ] in
    both refl

pub walked : (bytes : List ℕ) (state : State) → Walked state bytes (walk_at state bytes)
walked bytes state = walked_upto (length bytes) bytes state (omega arith)

walk_short : (bytes : List ℕ) (state : State) → length (walk_at state bytes).1 ≤ length bytes
walk_short bytes state =
    let w = walked bytes state in
    let counted : length bytes ≡ length (w.text ++ (walk_at state bytes).1) = ap (λ (s : List ℕ). length s) w.parts in
    omega (arith, length-append w.text (walk_at state bytes).1)

-- ---- EF BB BF

pub record SplitsMark (bytes : List ℕ) : Type 0 where
  pub mark : List ℕ
  pub is_mark : IsMark mark
  pub parts : bytes ≡ mark ++ after_mark bytes

marked_by : (bytes : List ℕ) (o : Option (List ℕ)) → (byte_at 239 bytes >>= (λ rest. byte_at 187 rest) >>= λ rest. byte_at 191 rest) ≡ o
    → (mark : List ℕ) × IsMark mark × (bytes ≡ mark ++ unwrap_or o bytes)
marked_by bytes None e = ([], tt, refl)
marked_by bytes (Some rest) e =
    let b = bind_some (byte_at 239 bytes >>= λ more. byte_at 187 more) (λ more. byte_at 191 more) rest e in
    let a = bind_some (byte_at 239 bytes) (λ more. byte_at 187 more) b.0 b.1 in (
      239 ∷ 187 ∷ 191 ∷ [],
      refl,
      byte_takes 239 bytes a.0 a.1 ∙ ap (λ (s : List ℕ). 239 ∷ s) (byte_takes 187 a.0 b.0 a.2) ∙ ap (λ (s : List ℕ). 239 ∷ 187 ∷ s) (byte_takes 191 b.0 rest b.2),
    )

pub splits_mark : (bytes : List ℕ) → SplitsMark bytes
splits_mark bytes =
    let m = marked_by bytes (byte_at 239 bytes >>= (λ rest. byte_at 187 rest) >>= λ rest. byte_at 191 rest) refl in
    record { mark = m.0; is_mark = m.1; parts = m.2 }

-- ---- a document

pub place_none : (total : ℕ) (phase : Phase) (names : List (List ℕ)) (rest : List ℕ) → fault_place total (record { phase = phase; names = names }, rest) ≡ None
    → (rest ≡ []) × (let state : State = record { phase = phase; names = names } in state ≡ outside Epilog)
place_none total phase names (b ∷ rest) e = absurd cc
place_none total Epilog [] [] e = (refl, refl)
place_none total Epilog (name ∷ names) [] e = absurd cc
place_none total Opening names [] e = absurd cc
place_none total Prolog names [] e = absurd cc

pub whole_document : (bytes : List ℕ) → fault_at bytes ≡ None → (root : Node) × IsDocument bytes root
unfolding fault_at
whole_document bytes e =
    let m = splits_mark bytes in
    let rest = after_mark bytes in
    let end : State × List ℕ = walk_at (outside Opening) rest in
    let w = walked rest (outside Opening) in
    let p = place_none (length bytes) end.0.phase end.0.names end.1 e in
    let all : rest ≡ w.text = w.parts ∙ ap (λ (s : List ℕ). w.text ++ s) p.0 ∙ append-nil w.text in
    let spelled : Spell w.pieces rest = subst (Spell w.pieces) (sym all) w.spelled in
    let nests : Steps (outside Opening) w.pieces (outside Epilog) = subst (Steps (outside Opening) w.pieces) p.1 w.nests in
    document_of bytes m.mark rest m.parts m.is_mark (opens w.pieces (length m.mark) rest spelled nests)

-- ---- the longest prefix that nests

nests_walk : (pieces : List Piece) (text more : List ℕ) (state end : State) → Spell pieces text → Steps state pieces end → walk_at state (text ++ more) ≡ walk_at end more
nests_walk [] text more state end spelled nests = ap (λ (s : List ℕ). walk_at state (s ++ more)) spelled ∙ ap (λ (s : State). walk_at s more) nests
nests_walk (piece ∷ pieces) text more state end spelled nests =
    ap (λ (s : List ℕ). walk_at state (s ++ more)) spelled.2 ∙ ap (walk_at state) (append_assoc spelled.0 spelled.1 more)
    ∙ piece_walk piece spelled.0 (spelled.1 ++ more) state nests.0 spelled.3 nests.1
    ∙ nests_walk pieces spelled.1 more nests.0 end spelled.4 nests.2

piece_no_mark : (piece : Piece) (text rest : List ℕ) (next : State) → IsPiece piece text → after_piece (outside Opening) piece ≡ Some next → NoMark (text ++ rest)
piece_no_mark (byte b) text rest next is goes =
    elim (chosen (is_in White b) (Some (outside Opening)) None (Some next) goes) [
      | inl h ↦ subst (λ (s : List ℕ). NoMark (s ++ rest)) (sym is.0) (white_no_mark b h.0)
      | inr h ↦ absurd (let never = h.1 in cc)
    ]
piece_no_mark comment text rest next is goes = begins_no_mark text (33 ∷ 45 ∷ 45 ∷ is.0) rest is.1
piece_no_mark declaration text rest next is goes = begins_no_mark text (63 ∷ 120 ∷ 109 ∷ 108 ∷ (is.space ++ (is.inside ++ 63 ∷ 62 ∷ []))) rest is.parts
piece_no_mark (start tag) text rest next is goes = begins_no_mark text (tag.name ++ (is.attributes ++ (is.space ++ 62 ∷ []))) rest is.parts
piece_no_mark (whole tag) text rest next is goes = begins_no_mark text (tag.name ++ (is.attributes ++ (is.space ++ 47 ∷ 62 ∷ []))) rest is.parts
piece_no_mark (finish name) text rest next is goes = begins_no_mark text (47 ∷ (name ++ (is.space ++ 62 ∷ []))) rest is.parts

-- what follows a prefix that nests is not shorter than what follows the walk
not_shorter : (bytes mark text more : List ℕ) (pieces : List Piece) (end : State) → bytes ≡ mark ++ (text ++ more) → IsMark mark → Spell pieces text
    → Steps (outside Opening) pieces end → length (walk_at (outside Opening) (after_mark bytes)).1 ≤ length more
not_shorter bytes (b ∷ mark) text more pieces end parts is_mark spelled nests =
    let rest : after_mark bytes ≡ text ++ more = ap after_mark parts ∙ ap (λ (s : List ℕ). after_mark (s ++ (text ++ more))) is_mark in
    let same : walk_at (outside Opening) (after_mark bytes) ≡ walk_at end more = ap (walk_at (outside Opening)) rest ∙ nests_walk pieces text more (outside Opening) end spelled nests in
    subst (λ (e : State × List ℕ). length e.1 ≤ length more) (sym same) (walk_short more end)
not_shorter bytes [] text more [] end parts is_mark spelled nests =
    let all : bytes ≡ more = parts ∙ ap (λ (s : List ℕ). s ++ more) spelled in
    let m = splits_mark bytes in
    let short = walk_short (after_mark bytes) (outside Opening) in
    let counted : length bytes ≡ length (m.mark ++ after_mark bytes) = ap (λ (s : List ℕ). length s) m.parts in
    let same : length bytes ≡ length more = ap (λ (s : List ℕ). length s) all in
    omega (arith, length-append m.mark (after_mark bytes))
not_shorter bytes [] text more (piece ∷ pieces) end parts is_mark spelled nests =
    let first_is : bytes ≡ spelled.0 ++ (spelled.1 ++ more) = parts ∙ ap (λ (s : List ℕ). s ++ more) spelled.2 ∙ append_assoc spelled.0 spelled.1 more in
    let clear : NoMark bytes = subst NoMark (sym first_is) (piece_no_mark piece spelled.0 (spelled.1 ++ more) nests.0 spelled.3 nests.1) in
    let rest : after_mark bytes ≡ text ++ more = no_mark_after bytes clear ∙ parts in
    let same : walk_at (outside Opening) (after_mark bytes) ≡ walk_at end more
    = ap (walk_at (outside Opening)) rest ∙ nests_walk (piece ∷ pieces) text more (outside Opening) end spelled nests in
    subst (λ (e : State × List ℕ). length e.1 ≤ length more) (sym same) (walk_short more end)

place_is : (total at : ℕ) (phase : Phase) (names : List (List ℕ)) (rest : List ℕ) → fault_place total (record { phase = phase; names = names }, rest) ≡ Some at → at ≡ total - length rest
place_is total at phase names (b ∷ rest) e = sym (some_is (total - length (b ∷ rest)) at e)
place_is total at Epilog [] [] e = absurd cc
place_is total at Epilog (name ∷ names) [] e = let same : total ≡ at = some_is total at e in omega arith
place_is total at Opening names [] e = let same : total ≡ at = some_is total at e in omega arith
place_is total at Prolog names [] e = let same : total ≡ at = some_is total at e in omega arith

pub longest_nested : (bytes : List ℕ) (at : ℕ) → fault_at bytes ≡ Some at → IsLongestNested bytes at
unfolding fault_at
longest_nested bytes at e =
    let m = splits_mark bytes in
    let rest = after_mark bytes in
    let end : State × List ℕ = walk_at (outside Opening) rest in
    let w = walked rest (outside Opening) in
    let place : at ≡ length bytes - length end.1 = place_is (length bytes) at end.0.phase end.0.names end.1 e in
    let whole_is : bytes ≡ (m.mark ++ w.text) ++ end.1 = m.parts ∙ ap (λ (s : List ℕ). m.mark ++ s) w.parts ∙ sym (append_assoc m.mark w.text end.1) in
    let counted : length bytes ≡ length (m.mark ++ w.text) + length end.1 = ap (λ (s : List ℕ). length s) whole_is ∙ length-append (m.mark ++ w.text) end.1 in
    let at_is : length (m.mark ++ w.text) ≡ at = omega arith in
    let front_is : take at bytes ≡ m.mark ++ w.text = ap (take at) whole_is ∙ take_at (m.mark ++ w.text) end.1 at at_is in
    record {
      within = omega arith;
      nested = nested_by_walk (take at bytes) end.0
          (record { mark = m.mark; rest = w.text; pieces = w.pieces; parts = front_is; is_mark = m.is_mark; spelled = w.spelled; steps = w.nests });
      longest = λ n le nested.
          let other = walk_by_nested (take n bytes) nested in
          let o = other.1 in
          let more = drop n bytes in
          let all : bytes ≡ o.mark ++ (o.rest ++ more) = sym (take-append-drop n bytes) ∙ ap (λ (s : List ℕ). s ++ more) o.parts ∙ append_assoc o.mark o.rest more in
          let low : length end.1 ≤ length more = not_shorter bytes o.mark o.rest more o.pieces other.0 all o.is_mark o.spelled o.steps in
          let count : length bytes ≡ length (take n bytes) + length more = ap (λ (s : List ℕ). length s) (sym (take-append-drop n bytes)) ∙ length-append (take n bytes) more in
          omega (arith, length-take n bytes);
    }
