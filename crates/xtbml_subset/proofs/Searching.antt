-- The search for elements, one piece on and at its end.
use Rattle.xtbml_subset.proofs.Names.{true, false, inl, inr, ◌≡◌, ℕ, zero, suc, ◌+◌, ◌≤◌, List, [], ◌∷◌, ◌++◌, length, Option, Some, None, refl, sym, subst, arith, option_map_or, Piece, byte, comment, declaration, start, whole, finish, piece_at, Found, is_hit, Step, on, found, step_of, depth_after, found_by, elements_from, elements_at}
use Rattle.xtbml_subset.proofs.Options.{chosen}
use Rattle.xtbml_subset.proofs.Behind.{behind_count}
use Rattle.xtbml_subset.proofs.PieceReading.{piece_behind}

abbrev pub elements_then : Option ℕ → Option (List ℕ) → List ℕ → List Found
elements_then depth wanted rest = option_map_or (λ next. elements_at next wanted rest) depth []

pub elements_skip : (front rest : List ℕ) (depth : ℕ) (wanted : Option (List ℕ)) → elements_from (length front) depth wanted (front ++ rest) ≡ elements_at depth wanted rest
unfolding elements_from
elements_skip [] rest depth wanted = refl
elements_skip (b ∷ front) rest depth wanted = elements_skip front rest depth wanted

skip_then : (o : Option ℕ) (front rest : List ℕ) (wanted : Option (List ℕ))
    → option_map_or (λ next. elements_from (length front) next wanted (front ++ rest)) o [] ≡ elements_then o wanted rest
skip_then None front rest wanted = refl
skip_then (Some next) front rest wanted = elements_skip front rest next wanted

step_at : (first : ℕ) (front rest : List ℕ) (depth : ℕ) (wanted : Option (List ℕ)) (piece : Piece) → piece_at (first ∷ (front ++ rest)) ≡ Some (piece, rest)
    → elements_at depth wanted (first ∷ (front ++ rest)) ≡ found_by (first ∷ (front ++ rest)) rest (step_of depth wanted piece) ++ elements_then (depth_after (step_of depth wanted piece)) wanted rest
unfolding elements_from
step_at first front rest depth wanted piece e =
    let count = behind_count front rest in
    let skipped = skip_then (depth_after (step_of depth wanted piece)) front rest wanted in
    rw (e, count, skipped) refl

pub elements_step : (bytes : List ℕ) (piece : Piece) (rest : List ℕ) (depth : ℕ) (wanted : Option (List ℕ)) → piece_at bytes ≡ Some (piece, rest)
    → elements_at depth wanted bytes ≡ found_by bytes rest (step_of depth wanted piece) ++ elements_then (depth_after (step_of depth wanted piece)) wanted rest
elements_step bytes piece rest depth wanted e =
    let b = piece_behind bytes piece rest e in
    let P : List ℕ → Type 0 = λ s. piece_at s ≡ Some (piece, rest)
    → elements_at depth wanted s ≡ found_by s rest (step_of depth wanted piece) ++ elements_then (depth_after (step_of depth wanted piece)) wanted rest in
    subst P (sym b.parts) (step_at b.first b.front rest depth wanted piece) e

-- the same where the step is known
pub elements_by : (bytes : List ℕ) (piece : Piece) (rest : List ℕ) (depth : ℕ) (wanted : Option (List ℕ)) (step : Step) → piece_at bytes ≡ Some (piece, rest)
    → step ≡ step_of depth wanted piece → elements_at depth wanted bytes ≡ found_by bytes rest step ++ elements_then (depth_after step) wanted rest
elements_by bytes piece rest depth wanted step e s =
    let P : Step → Type 0 = λ t. elements_at depth wanted bytes ≡ found_by bytes rest t ++ elements_then (depth_after t) wanted rest in
    subst P (sym s) (elements_step bytes piece rest depth wanted e)

pub elements_end : (bytes : List ℕ) (depth : ℕ) (wanted : Option (List ℕ)) → piece_at bytes ≡ None → elements_at depth wanted bytes ≡ []
unfolding elements_from
elements_end [] depth wanted e = refl
elements_end (b ∷ bytes) depth wanted e = rw e refl

abbrev on_step : ℕ → Step
on_step depth = on depth

on_is : (m n : ℕ) → on_step m ≡ on_step n → m ≡ n
on_is m n e = cc

-- the depth stays low: each level below costs a byte
pub step_low : (depth : ℕ) (wanted : Option (List ℕ)) (piece : Piece) (next : ℕ) → on next ≡ step_of depth wanted piece → next ≤ depth + 1
step_low depth wanted (byte b) next e = let same : next ≡ depth = cc in omega arith
step_low depth wanted comment next e = let same : next ≡ depth = cc in omega arith
step_low depth wanted declaration next e = let same : next ≡ depth = cc in omega arith
step_low depth wanted (start tag) next e =
    elim (chosen (is_hit depth wanted tag) (found tag true) (on (depth + 1)) (on next) (sym e)) [
      | inl h ↦ absurd (let no = h.1 in cc)
      | inr h ↦ let same : depth + 1 ≡ next = on_is (depth + 1) next h.1 in omega arith
    ]
step_low depth wanted (whole tag) next e =
    elim (chosen (is_hit depth wanted tag) (found tag false) (on depth) (on next) (sym e)) [
      | inl h ↦ absurd (let no = h.1 in cc)
      | inr h ↦ let same : depth ≡ next = on_is depth next h.1 in omega arith
    ]
step_low zero wanted (finish name) next e = absurd cc
step_low (suc depth) wanted (finish name) next e = let same : next ≡ depth = on_is next depth e in omega arith
