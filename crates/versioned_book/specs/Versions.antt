-- A key's versions: the values that it took, each with its position, in the order of setting.
use Rattle.std.specs.Prelude.{◌≡◌, ℕ, ◌+◌, ◌*◌, ◌^◌, ◌<◌, ◌≤◌, List, [], ◌∷◌, Option, None, Some, if◌then◌else◌, nat_le}

-- the positions rise; all are above the first number, and none is above the last
abbrev pub IsRisingTo : ℕ → List ℕ → ℕ → Type 0
IsRisingTo low [] last = low ≤ last
IsRisingTo low (p ∷ ps) last = (low < p) × IsRisingTo p ps last

module _ {V : Type 0} where
  -- each position is above the number and above the position before it
  abbrev pub IsRising : ℕ → List (ℕ × V) → Type 0
  IsRising low [] = Unit {0}
  IsRising low (v ∷ vs) = (low < v.0) × IsRising v.0 vs

  -- the first, if there is one, or else the second
  abbrev pub or_else : Option V → Option V → Option V
  or_else (Some v) other = Some v
  or_else None other = other

  -- the value last set at or before the position
  abbrev pub value_at : ℕ → List (ℕ × V) → Option V
  value_at p [] = None
  value_at p (v ∷ vs) = or_else (value_at p vs) (if nat_le v.0 p then Some v.1 else None)

  -- the position of the first version
  abbrev pub first_position : List (ℕ × V) → Option ℕ
  first_position [] = None
  first_position (v ∷ vs) = Some v.0

  -- the value of the last version
  abbrev pub newest_of : List (ℕ × V) → Option V
  newest_of [] = None
  newest_of (v ∷ vs) = or_else (newest_of vs) (Some v.1)

  -- what is left of a version and those after it, once each version is dropped whose successor's position isn't above
  -- the floor
  abbrev pub trimmed_from : ℕ → (ℕ × V) → List (ℕ × V) → List (ℕ × V)
  trimmed_from floor v [] = v ∷ []
  trimmed_from floor v (w ∷ vs) = if nat_le w.0 floor then trimmed_from floor w vs else v ∷ w ∷ vs

  -- the versions that some position from the floor on needs
  abbrev pub versions_from : ℕ → List (ℕ × V) → List (ℕ × V)
  versions_from floor [] = []
  versions_from floor (v ∷ vs) = trimmed_from floor v vs

-- a count of steps rose by so few that 2 to the power of their number is at most twice n, plus one
abbrev pub AreFewSteps : ℕ → ℕ → ℕ → Type 0
AreFewSteps before now n = (spent : ℕ) × (now ≡ before + spent) × (2 ^ spent ≤ 2 * n + 1)
