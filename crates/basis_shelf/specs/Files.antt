-- The files of a shelf: what it has at each name.
use Rattle.std.specs.Prelude.{◌≡◌, ℕ, ◌<◌, ◌≤◌, List, length, Option, Some, None, IsSomeAnd}

-- no file has this name
abbrev pub IsAbsent : (List ℕ → Option (List ℕ)) → List ℕ → Type 0
IsAbsent files name = files name ≡ None

-- the file of this name has more than 4 MiB
abbrev pub IsTooLong : (List ℕ → Option (List ℕ)) → List ℕ → Type 0
IsTooLong files name = IsSomeAnd (files name) (λ bytes. 4194304 < length bytes)

-- the file of this name has these bytes, of which there are at most 4 MiB
abbrev pub IsFile : (List ℕ → Option (List ℕ)) → List ℕ → List ℕ → Type 0
IsFile files name bytes = (files name ≡ Some bytes) × (length bytes ≤ 4194304)
