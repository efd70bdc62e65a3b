-- Runs of single bytes that are passed over.
use Rattle.xtbml_subset.proofs.Names.{◌≡◌, ℕ, zero, suc, true, List, [], ◌∷◌, Option, Some, refl, sym, ◌∙◌, inl, inr, arith, cases_Bool, Class, White, Text, Phase, is_in, after, byte, State, outside, after_piece, names_of, walk_at, on, elements_at}
use Rattle.xtbml_subset.proofs.LexAgain.{white_is_text}
use Rattle.xtbml_subset.proofs.PieceReading.{piece_byte}
use Rattle.xtbml_subset.proofs.Walking.{walk_step}
use Rattle.xtbml_subset.proofs.Searching.{elements_by}

-- ---- the walk

walk_run : (class : Class) (state : State) → ((b : ℕ) → is_in class b ≡ true → is_in Text b ≡ true) → ((b : ℕ) → is_in class b ≡ true → after_piece state (byte b) ≡ Some state)
    → (bytes : List ℕ) → walk_at state (after class bytes) ≡ walk_at state bytes
walk_run class state text stays [] = refl
walk_run class state text stays (b ∷ bytes) =
    elim (cases_Bool (is_in class b)) [
      | inl h ↦ rw h (walk_run class state text stays bytes ∙ sym (walk_step (b ∷ bytes) (byte b) bytes state state (piece_byte b bytes (text b h)) (stays b h)))
      | inr h ↦ rw h refl
    ]

white_stays : (phase : Phase) (b : ℕ) → is_in White b ≡ true → after_piece (outside phase) (byte b) ≡ Some (outside phase)
white_stays phase b white = rw white refl

pub run_outside : (phase : Phase) (depth : ℕ) (names : List (List ℕ)) (bytes : List ℕ) → depth ≡ 0
    → (let state : State = record { phase = phase; names = names_of depth names } in walk_at state (after White bytes) ≡ walk_at state bytes)
run_outside phase zero names bytes e = walk_run White (outside phase) white_is_text (white_stays phase) bytes
run_outside phase (suc depth) names bytes e = absurd (omega arith)

pub run_inside : (phase : Phase) (depth : ℕ) (names : List (List ℕ)) (bytes : List ℕ) → (depth ≡ 0 → ⊥)
    → (let state : State = record { phase = phase; names = names_of depth names } in walk_at state (after Text bytes) ≡ walk_at state bytes)
run_inside phase zero names bytes apart = absurd (apart refl)
run_inside phase (suc depth) names bytes apart =
    walk_run Text (record { phase = phase; names = names_of (suc depth) names }) (λ b is. is) (λ b is. refl) bytes

-- ---- the search

elements_run : (class : Class) → ((b : ℕ) → is_in class b ≡ true → is_in Text b ≡ true) → (bytes : List ℕ) (depth : ℕ) (wanted : Option (List ℕ))
    → elements_at depth wanted (after class bytes) ≡ elements_at depth wanted bytes
elements_run class text [] depth wanted = refl
elements_run class text (b ∷ bytes) depth wanted =
    elim (cases_Bool (is_in class b)) [
      | inl h ↦ rw h (elements_run class text bytes depth wanted ∙ sym (elements_by (b ∷ bytes) (byte b) bytes depth wanted (on depth) (piece_byte b bytes (text b h)) refl))
      | inr h ↦ rw h refl
    ]

pub elements_text : (bytes : List ℕ) (depth : ℕ) (wanted : Option (List ℕ)) → elements_at depth wanted (after Text bytes) ≡ elements_at depth wanted bytes
elements_text = elements_run Text (λ b is. is)

pub elements_white : (bytes : List ℕ) (depth : ℕ) (wanted : Option (List ℕ)) → elements_at depth wanted (after White bytes) ≡ elements_at depth wanted bytes
elements_white = elements_run White white_is_text
