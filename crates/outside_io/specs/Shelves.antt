-- What a shelf answered, and which files give those answers.
use Rattle.std.specs.Prelude.{◌≡◌, ℕ, ◌<◌, List, ◌∷◌, [], ◌++◌, length, All, Option, Some, None, Result, Ok, Err, Vec, IsSomeAnd, ⊤}
use Rattle.std.specs.declared.alloc.Global.{Global}
use Rattle.std.proofs.Common.{ap}
use Rattle.outside_io.specs.declared.failures.FetchFault.{FetchFault}
use Rattle.outside_io.specs.declared.failures.FetchFault.TheVariants as fault

-- the bytes at each name at which there is a file
abbrev pub Files : Type 0
Files = List ℕ → Option (List ℕ)

-- what was reported of a file
pub data Told : Type 0 where
  Found : List ℕ → Told
  Absent : Told
  TooLong : Told

-- what was reported of the file with this name
pub record Answer : Type 0 where
  pub name : List ℕ
  pub told : Told

-- the report of a file with these bytes, or of no file
abbrev pub FileTells : Option (List ℕ) → Told → Type 0
FileTells file (Found bytes) = file ≡ Some bytes
FileTells file Absent = file ≡ None
FileTells file TooLong = IsSomeAnd file (λ bytes. 4194304 < length bytes)

-- each answer is the one that these files give
abbrev pub Agrees : List Answer → Files → Type 0
Agrees [] files = ⊤
Agrees (answer ∷ earlier) files = Agrees earlier files × FileTells (files answer.name) answer.told

-- the answer for this name was added to those before, if the shelf reported on the file
abbrev pub KeepsAnswer : List ℕ → Result (Vec ℕ Global) FetchFault → List Answer → List Answer → Type 0
KeepsAnswer name (Ok bytes) before now = now ≡ record { name = name; told = Found bytes.items } ∷ before
KeepsAnswer name (Err fault.Absent) before now = now ≡ record { name = name; told = Absent } ∷ before
KeepsAnswer name (Err fault.TooLong) before now = now ≡ record { name = name; told = TooLong } ∷ before
KeepsAnswer name (Err fault.Failed) before now = now ≡ before
KeepsAnswer name (Err (fault.NoMemory lack)) before now = now ≡ before

-- these are those files
abbrev pub AreFiles : Files → Files → Type 0
AreFiles files at = (name : List ℕ) → at name ≡ files name

-- a shelf that reports its files agrees with them
pub same_files : (one other : Files) → Some one ≡ Some other → AreFiles one other
same_files one other same name = let equal : other ≡ one = cc in ap (λ (at : Files). at name) equal

-- a shelf that reports none
pub no_files : (files : Files) (P : Type 0) → None ≡ Some files → P
no_files files P same = absurd (cc)

-- whatever was asked for between two moments, at which these names had been asked for, is allowed
abbrev pub AsksOnly : (List ℕ → Type 0) → List (List ℕ) → List (List ℕ) → Type 0
AsksOnly Allowed before now = (more : List (List ℕ)) × (now ≡ more ++ before) × All Allowed more
