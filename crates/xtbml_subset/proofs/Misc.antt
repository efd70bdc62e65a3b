-- White space and comments, by recursion over the pieces.
use Rattle.xtbml_subset.proofs.Names.{◌≡◌, ◌≢◌, ℕ, ◌⊎◌, inl, inr, true, List, [], ◌∷◌, refl, White, is_in, Piece, byte, comment, declaration, start, whole, finish, IsWhiteByte, AllByRecursion}

abbrev pub AreMisc : List Piece → Type 0
AreMisc [] = Unit {0}
AreMisc (byte b ∷ pieces) = (is_in White b ≡ true) × AreMisc pieces
AreMisc (comment ∷ pieces) = AreMisc pieces
AreMisc (declaration ∷ pieces) = ⊥
AreMisc (start tag ∷ pieces) = ⊥
AreMisc (whole tag ∷ pieces) = ⊥
AreMisc (finish name ∷ pieces) = ⊥

abbrev pub IsMiscPiece : Piece → Type 0
IsMiscPiece piece = IsWhiteByte piece ⊎ (piece ≡ comment)

pub misc_from : (pieces : List Piece) → AreMisc pieces → AllByRecursion IsMiscPiece pieces
misc_from [] are = tt
misc_from (byte b ∷ pieces) are = (inl are.0, misc_from pieces are.1)
misc_from (comment ∷ pieces) are = (inr refl, misc_from pieces are)
misc_from (declaration ∷ pieces) are = absurd are
misc_from (start tag ∷ pieces) are = absurd are
misc_from (whole tag ∷ pieces) are = absurd are
misc_from (finish name ∷ pieces) are = absurd are

white_misc : (b : ℕ) → IsMiscPiece (byte b) → is_in White b ≡ true
white_misc b (inl white) = white
white_misc b (inr e) = absurd cc

no_misc : (piece : Piece) → (IsWhiteByte piece → ⊥) → (piece ≢ comment) → IsMiscPiece piece → ⊥
no_misc piece not_white other (inl white) = not_white white
no_misc piece not_white other (inr e) = other e

pub are_misc : (pieces : List Piece) → AllByRecursion IsMiscPiece pieces → AreMisc pieces
are_misc [] all = tt
are_misc (byte b ∷ pieces) all = (white_misc b all.0, are_misc pieces all.1)
are_misc (comment ∷ pieces) all = are_misc pieces all.1
are_misc (declaration ∷ pieces) all = no_misc declaration (λ w. w) (λ e. absurd cc) all.0
are_misc (start tag ∷ pieces) all = no_misc (start tag) (λ w. w) (λ e. absurd cc) all.0
are_misc (whole tag ∷ pieces) all = no_misc (whole tag) (λ w. w) (λ e. absurd cc) all.0
are_misc (finish name ∷ pieces) all = no_misc (finish name) (λ w. w) (λ e. absurd cc) all.0
