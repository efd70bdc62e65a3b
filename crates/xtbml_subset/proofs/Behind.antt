-- What is left of the bytes after something was taken from their start.
use Rattle.xtbml_subset.proofs.Names.{◌≡◌, ℕ, ◌-◌, ◌<◌, List, ◌∷◌, ◌++◌, length, arith, length-append}

-- rest is what is left of the bytes after one byte or more
pub record IsBehind (bytes rest : List ℕ) : Type 0 where
  pub first : ℕ
  pub front : List ℕ
  pub parts : bytes ≡ first ∷ (front ++ rest)

pub behind_shorter : (bytes rest : List ℕ) → IsBehind bytes rest → length rest < length bytes
behind_shorter bytes rest b = rw b.parts (omega (arith, length-append b.front rest))

pub behind_count : (front rest : List ℕ) → length (front ++ rest) - length rest ≡ length front
behind_count front rest = omega (arith, length-append front rest)
