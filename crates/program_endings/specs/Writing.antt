-- What passes between the program and its devices in a call
use Rattle.std.specs.Prelude.{◌≡◌, ℕ, ◌⊎◌, List, [], ◌∷◌, ◌++◌, Option, Some, IfSome}
use Rattle.program_endings.specs.Names.{Appends, IsAtEnd, Rose, Files, AppendsPart, TakenPiece}

-- an input at two moments: its count of faults, the bytes that are left in it if it reports them, the bytes that it
-- gave so far, and whether a read of it has seen the end
pub record Input : Type 1 where
  pub faults_before : ℕ
  pub faults_after : ℕ
  pub left_before : Option (List ℕ)
  pub left_after : Option (List ℕ)
  pub given_before : List ℕ
  pub given_after : List ℕ
  pub Ended : Type 0

-- an input between two moments
abbrev pub input_between : {Device : Type 0} → (Device → ℕ) → (Device → Option (List ℕ)) → (Device → List ℕ) → (Device → Type 0)
    → Device → Device → Input
input_between faults left given ended old new = record {
  faults_before = faults old;
  faults_after = faults new;
  left_before = left old;
  left_after = left new;
  given_before = given old;
  given_after = given new;
  Ended = ended new;
}

-- the input gave exactly these bytes in the call, up to its end; if it reports what is left in it, exactly these were
-- left, and nothing is left now
pub record GaveAll (input : Input) (bytes : List ℕ) : Type 0 where
  pub given : input.given_after ≡ input.given_before ++ bytes
  pub ended : input.Ended
  pub left : IfSome input.left_before (λ told. told ≡ bytes)
  pub end : IsAtEnd input.left_after

-- the bytes are the whole input of the call: they were left in it, or it gave just them, up to its end
abbrev pub IsWholeInput : Input → List ℕ → Type 0
IsWholeInput input bytes =
    (input.left_before ≡ Some bytes) ⊎ ((input.given_after ≡ input.given_before ++ bytes) × input.Ended)

-- an output at two moments: its count of faults, the bytes that were written to it if it reports them, and the pieces
-- that it took, each with the moment by which it was handed on
pub record Stream : Type 0 where
  pub faults_before : ℕ
  pub faults_after : ℕ
  pub before : Option (List ℕ)
  pub after : Option (List ℕ)
  pub pieces_before : List TakenPiece
  pub pieces_after : List TakenPiece

-- an output between two moments
abbrev pub between : {Device : Type 0} → (Device → ℕ) → (Device → Option (List ℕ)) → (Device → List TakenPiece)
    → Device → Device → Stream
between faults tells pieces old new = record {
  faults_before = faults old;
  faults_after = faults new;
  before = tells old;
  after = tells new;
  pieces_before = pieces old;
  pieces_after = pieces new;
}

-- all these bytes were written
abbrev pub WroteAll : Stream → List ℕ → Type 0
WroteAll output bytes = Appends output.before output.after bytes

-- a prefix of the bytes was written, and not all of them, since the output failed
abbrev pub WrotePart : Stream → List ℕ → Type 0
WrotePart output bytes = Rose output.faults_before output.faults_after × AppendsPart output.before output.after bytes

-- nothing of the bytes was written
abbrev pub WroteNothing : Stream → List ℕ → Type 0
WroteNothing output bytes = Appends output.before output.after []

-- the bytes were written, or the output failed
abbrev pub WroteOrFailed : Stream → List ℕ → Type 0
WroteOrFailed output bytes = WroteAll output bytes ⊎ WrotePart output bytes

-- one line was written, or, if the output failed, a prefix of it
abbrev pub WroteLine : Stream → List ℕ → Type 0
WroteLine output line = WroteOrFailed output (line ++ 10 ∷ [])

-- a shelf at two moments: its count of faults, and which files give each of its answers so far, by their names
pub record Shelving : Type 1 where
  pub faults_before : ℕ
  pub faults_after : ℕ
  pub Agrees : Files → Type 0

-- a shelf between two moments
abbrev pub shelf_between : {Device : Type 0} → (Device → ℕ) → (Device → Files → Type 0) → Device → Device → Shelving
shelf_between faults agrees old new = record { faults_before = faults old; faults_after = faults new; Agrees = agrees new }
