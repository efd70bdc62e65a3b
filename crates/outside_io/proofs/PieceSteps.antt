-- Pieces by one moment, one after the other
use Rattle.std.proofs.Common.{◌≡◌, ℕ, ◌+◌, List, [], ◌∷◌, ◌++◌, take, drop, refl, ap, ◌∙◌, sym}
use Rattle.std.proofs.Math.Seq.{take-add}
use Rattle.std.specs.List.{AllByRecursion}
use Rattle.outside_io.specs.Streams.{TakenPiece, taken_bytes}

-- these bytes were taken by this moment
pub record HasAdded (before now : List TakenPiece) (since : ℕ) (bytes : List ℕ) : Type 0 where
  pub run : List TakenPiece
  pub added : now ≡ run ++ before
  pub all : AllByRecursion (λ (piece : TakenPiece). piece.since ≡ since) run
  pub bytes_are : taken_bytes run ≡ bytes

pub none_added : (before : List TakenPiece) (since : ℕ) → HasAdded before before since []
none_added before since = record { run = []; added = refl; all = tt; bytes_are = refl }

-- one more piece
pub adds_one : (before mid now : List TakenPiece) (since : ℕ) (bytes : List ℕ) (k n : ℕ) → HasAdded before mid since (take k bytes)
    → now ≡ (record { bytes = take n (drop k bytes); since = since }) ∷ mid → HasAdded before now since (take (k + n) bytes)
adds_one before mid now since bytes k n first more = record {
  run = (record { bytes = take n (drop k bytes); since = since }) ∷ first.run;
  added = more ∙ ap (λ pieces. (record { bytes = take n (drop k bytes); since = since }) ∷ pieces) first.added;
  all = (refl, first.all);
  bytes_are = ap (λ front. front ++ take n (drop k bytes)) first.bytes_are ∙ sym (take-add k n bytes);
}
