-- The name of a file on a shelf: 1 to 64 characters, each an ASCII letter, a digit, `.`, `_` or `-`, and
-- the first a letter or a digit. A folder can have a file of every such name, so that to ask for one is no fault.
use Rattle.std.specs.Prelude.{◌≡◌, ℕ, ◌≤◌, ◌⊎◌, List, length, slice_index, All}
use Rattle.std.specs.Char.{IsAsciiAlphanumeric}

-- a letter, a digit, `.`, `_` or `-`
abbrev pub IsNameByte : ℕ → Type 0
IsNameByte byte = IsAsciiAlphanumeric byte ⊎ ((byte ≡ 46) ⊎ ((byte ≡ 95) ⊎ (byte ≡ 45)))

pub record IsName (bytes : List ℕ) : Type 0 where
  pub some : 1 ≤ length bytes
  pub short : length bytes ≤ 64
  pub first : IsAsciiAlphanumeric (slice_index bytes 0)
  pub each : All (λ byte. IsAsciiAlphanumeric byte ⊎ ((byte ≡ 46) ⊎ ((byte ≡ 95) ⊎ (byte ≡ 45)))) bytes
