-- What the calls of a source and of a sink do to the bytes that they report.
use Rattle.std.specs.Prelude.{◌≡◌, ◌⊎◌, ℕ, ◌<◌, Option, Result, List, [], ◌∷◌, ◌++◌, length, take, is_some, IsOkAnd, MatchResult, OnOk, OnErr}
use Rattle.std.specs.List.{AllByRecursion}
use Rattle.std.specs.Io.KnownBytes.{Appends, Consumes}

-- a device reports its bytes now exactly if it reported them before
abbrev pub StillTells : Option (List ℕ) → Option (List ℕ) → Type 0
StillTells before now = is_some now ≡ is_some before

-- a prefix of these bytes, and not all of them, was written
pub record AppendsPart (before now : Option (List ℕ)) (bytes : List ℕ) : Type 0 where
  pub taken : ℕ
  pub not_all : taken < length bytes
  pub written : Appends before now (take taken bytes)

-- a prefix of the bytes that were left was read
abbrev pub LosesFront : Option (List ℕ) → Option (List ℕ) → Type 0
LosesFront before now = (front : List ℕ) × Consumes before now front

-- a read that gave n bytes put them at the start of the buffer; a read that failed gave none
abbrev pub ReadGives : {E : Type 0} → List ℕ → List ℕ → Result ℕ E → List ℕ → Type 0
ReadGives before now result buf = MatchResult result (λ n. now ≡ before ++ take n buf) (λ _. now ≡ before)

-- a read gave nothing though the buffer isn't empty
abbrev pub SeesEnd : {E : Type 0} → Result ℕ E → List ℕ → Type 0
SeesEnd result buf = IsOkAnd result (λ n. n ≡ 0) × (0 < length buf)

-- Some bytes were given, and were removed from the start of those that were left.
pub record GivesFront (given_before given_now : List ℕ) (left_before left_now : Option (List ℕ)) : Type 0 where
  pub front : List ℕ
  pub given : given_now ≡ given_before ++ front
  pub left : Consumes left_before left_now front

-- more bytes than so many were given
abbrev pub GivesMore : ℕ → List ℕ → List ℕ → Type 0
GivesMore limit before now = (front : List ℕ) × (now ≡ before ++ front) × (limit < length front)

-- A piece that passed through a stream, and the length of the buffer of that call.
pub record StreamPiece : Type 0 where
  pub room : ℕ
  pub bytes : List ℕ

-- the bytes that passed, in order; the newest piece comes first in the list
abbrev pub passed_bytes : List StreamPiece → List ℕ
passed_bytes [] = []
passed_bytes (piece ∷ earlier) = passed_bytes earlier ++ piece.bytes

-- a piece was empty although the buffer wasn't
abbrev pub HasEnd : List StreamPiece → Type 0
HasEnd [] = ⊥
HasEnd (piece ∷ earlier) = HasEnd earlier ⊎ ((length piece.bytes ≡ 0) × (0 < piece.room))

-- A piece that a sink took, and the moment by which it was handed on: what the piece says was true by then.
pub record TakenPiece : Type 0 where
  pub bytes : List ℕ
  pub since : ℕ

-- the bytes that were taken, in order; the newest piece comes first in the list
abbrev pub taken_bytes : List TakenPiece → List ℕ
taken_bytes [] = []
taken_bytes (piece ∷ earlier) = taken_bytes earlier ++ piece.bytes

-- each piece that passed, with its moment
abbrev pub pieces_by : List StreamPiece → List ℕ → List TakenPiece
pieces_by (piece ∷ pieces) (moment ∷ moments) =
    (record { bytes = piece.bytes; since = moment }) ∷ pieces_by pieces moments
pieces_by _ _ = []

-- a write that took n bytes adds one piece, with this moment; a write that failed adds none
abbrev pub TakesPiece : {E : Type 0} → List TakenPiece → List TakenPiece → Result ℕ E → List ℕ → ℕ → Type 0
TakesPiece before now result bytes since =
    MatchResult result (λ n. now ≡ (record { bytes = take n bytes; since = since }) ∷ before) (λ _. now ≡ before)

-- Pieces with this moment were taken: all the bytes, or, if a write failed, a prefix of them and not all.
pub record AddsPieces {T E : Type 0} (before now : List TakenPiece) (since : ℕ) (bytes : List ℕ) (result : Result T E)
    : Type 0 where
  pub run : List TakenPiece
  pub added : now ≡ run ++ before
  pub all : AllByRecursion (λ (piece : TakenPiece). piece.since ≡ since) run
  pub whole : OnOk result (taken_bytes run ≡ bytes)
  pub part : OnErr result ((n : ℕ) × (n < length bytes) × (taken_bytes run ≡ take n bytes))
