-- If a source that reports what is left has ended, nothing is left.
use Rattle.std.specs.Prelude.{◌≡◌, ℕ, ◌≤◌, None, Some, List, [], length, drop}
use Rattle.std.proofs.lemmas.List.{drop_all}

-- the case of a source that doesn't report what is left
pub nothing_told : (told : List ℕ) → None ≡ Some told → told ≡ []
nothing_told told same = cc

-- the case of a source that gave all its bytes
pub all_given : (bytes told : List ℕ) (taken : ℕ) → length bytes ≤ taken → Some (drop taken bytes) ≡ Some told → told ≡ []
all_given bytes told taken all same = let none = drop_all taken bytes all in cc
