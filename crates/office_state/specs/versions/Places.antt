-- The book at a position is the values there, over the keys that were set by then
use Rattle.std.specs.Prelude.{◌≡◌, ℕ, ◌<◌, List, length, take, slice_get, Some}
use Rattle.office_state.specs.Names.{filter_map, Command, book, issue_id, IsAccepted, value_at, keys_of, own, until}
use Rattle.office_state.specs.versions.Commands.{sets_of}

-- the settings until a position are those of so many commands, also where some were refused
abbrev pub UntilLaw : Type 0
UntilLaw = (commands : List Command) (position : ℕ) → until position (sets_of commands) ≡ sets_of (take position commands)

-- the keys that were set by a position are the numbers issued by then, in their order
abbrev pub KeysLaw : Type 0
KeysLaw = (commands : List Command) (position : ℕ) → IsAccepted commands
    → keys_of (until position (sets_of commands)) ≡ filter_map issue_id (take position commands)

-- and there are as many of them as policies
abbrev pub KeyCountLaw : Type 0
KeyCountLaw = (commands : List Command) (position : ℕ) → IsAccepted commands
    → length (keys_of (until position (sets_of commands))) ≡ length (book (take position commands))

-- the book at a position is the list of their values there
abbrev pub BookAtLaw : Type 0
BookAtLaw = (commands : List Command) (position : ℕ) → IsAccepted commands
    → book (take position commands)
    ≡ filter_map (λ key. value_at position (own key (sets_of commands))) (keys_of (until position (sets_of commands)))

-- the policy of this index in the book at a position is the value there of the key of this index
pub record IsPlacedAt (commands : List Command) (position index : ℕ) : Type 0 where
  pub key : ℕ
  pub place : slice_get (keys_of (sets_of commands)) index ≡ Some key
  pub policy : slice_get (book (take position commands)) index ≡ value_at position (own key (sets_of commands))

abbrev pub IndexLaw : Type 0
IndexLaw = (commands : List Command) (position index : ℕ) → IsAccepted commands
    → index < length (book (take position commands)) → IsPlacedAt commands position index
