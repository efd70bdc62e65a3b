-- The settings of all keys, in the order in which they were made.
use Rattle.std.specs.Prelude.{ℕ, List, [], ◌∷◌, ◌++◌, filter, map, if◌then◌else◌, nat_eq, nat_le, nat_lt}
use Rattle.std.specs.List.{list_any}

-- a value that a key takes at a position
pub record Setting (V : Type 0) : Type 0 where
  pub key : ℕ
  pub position : ℕ
  pub value : V

-- the keys with this one, which is added at the end if it is new
abbrev pub with_key : List ℕ → ℕ → List ℕ
with_key keys key = if list_any (nat_eq key) keys then keys else keys ++ key ∷ []

module _ {V : Type 0} where
  -- the versions of a key
  abbrev pub own : ℕ → List (Setting V) → List (ℕ × V)
  own key [] = []
  own key (s ∷ sets) = if nat_eq s.key key then (s.position, s.value) ∷ own key sets else own key sets

  -- the keys, and after them those of the settings that are new
  abbrev pub keys_after : List ℕ → List (Setting V) → List ℕ
  keys_after keys [] = keys
  keys_after keys (s ∷ sets) = keys_after (with_key keys s.key) sets

  -- the keys that were set, each once, in the order of first setting
  abbrev pub keys_of : List (Setting V) → List ℕ
  keys_of sets = keys_after [] sets

  -- the settings at or before a position
  abbrev pub until : ℕ → List (Setting V) → List (Setting V)
  until p sets = filter (λ s. nat_le s.position p) sets

  -- the settings after a position
  abbrev pub settings_after : ℕ → List (Setting V) → List (Setting V)
  settings_after p sets = filter (λ s. nat_lt p s.position) sets

  -- the positions of the settings, in their order
  abbrev pub positions : List (Setting V) → List ℕ
  positions sets = map (λ s. s.position) sets
