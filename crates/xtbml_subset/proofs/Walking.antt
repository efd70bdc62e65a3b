-- The walk over the pieces of the bytes, one piece on and at its end.
use Rattle.xtbml_subset.proofs.Names.{◌≡◌, ℕ, ◌-◌, List, [], ◌∷◌, ◌++◌, length, Some, None, refl, ap, subst, ◌∙◌, Piece, piece_at, State, after_piece, walk_from, walk_at, fault_place}
use Rattle.xtbml_subset.proofs.Behind.{behind_count}
use Rattle.xtbml_subset.proofs.PieceReading.{piece_behind}

pub walk_skip : (front rest : List ℕ) (state : State) → walk_from (length front) state (front ++ rest) ≡ walk_at state rest
unfolding walk_from
walk_skip [] rest state = refl
walk_skip (b ∷ front) rest state = walk_skip front rest state

step_at : (first : ℕ) (front rest : List ℕ) (state next : State) (piece : Piece) → piece_at (first ∷ (front ++ rest)) ≡ Some (piece, rest)
    → after_piece state piece ≡ Some next → walk_at state (first ∷ (front ++ rest)) ≡ walk_at next rest
unfolding walk_from
step_at first front rest state next piece e goes =
    let count = behind_count front rest in
    let skipped = walk_skip front rest next in
    rw (e, goes, count) skipped

pub walk_step : (bytes : List ℕ) (piece : Piece) (rest : List ℕ) (state next : State) → piece_at bytes ≡ Some (piece, rest)
    → after_piece state piece ≡ Some next → walk_at state bytes ≡ walk_at next rest
walk_step bytes piece rest state next e goes =
    let b = piece_behind bytes piece rest e in
    let at : piece_at (b.first ∷ (b.front ++ rest)) ≡ Some (piece, rest) = subst (λ (s : List ℕ). piece_at s ≡ Some (piece, rest)) b.parts e in
    ap (walk_at state) b.parts ∙ step_at b.first b.front rest state next piece at goes

pub walk_stuck : (bytes : List ℕ) (piece : Piece) (rest : List ℕ) (state : State) → piece_at bytes ≡ Some (piece, rest)
    → after_piece state piece ≡ None → walk_at state bytes ≡ (state, bytes)
unfolding walk_from
walk_stuck [] piece rest state e stops = refl
walk_stuck (b ∷ bytes) piece rest state e stops = rw (e, stops) refl

pub walk_end : (bytes : List ℕ) (state : State) → piece_at bytes ≡ None → walk_at state bytes ≡ (state, bytes)
unfolding walk_from
walk_end [] state e = refl
walk_end (b ∷ bytes) state e = rw e refl

pub place_stuck : (total : ℕ) (bytes : List ℕ) (piece : Piece) (rest : List ℕ) (state : State) → piece_at bytes ≡ Some (piece, rest)
    → fault_place total (state, bytes) ≡ Some (total - length bytes)
unfolding piece_at
place_stuck total [] piece rest state e = absurd cc
place_stuck total (b ∷ bytes) piece rest state e = refl
