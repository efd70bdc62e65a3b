-- A policy's versions are what the commands made of it
use Rattle.std.specs.Prelude.{◌≡◌, ℕ, ◌+◌, List, take, slice_get, Some, false}
use Rattle.office_state.specs.Names.{Command, Policy, id_of, is_upgrade, policy_of, IsAccepted, newest_of, value_at, own}
use Rattle.office_state.specs.versions.Commands.{sets_of}

-- the value at a position is the policy after so many commands, also where some were refused
abbrev pub PolicyAtLaw : Type 0
PolicyAtLaw = (commands : List Command) (id position : ℕ)
    → value_at position (own id (sets_of commands)) ≡ policy_of (take position commands) id

-- and the newest is the policy after all of them
abbrev pub NewestPolicyLaw : Type 0
NewestPolicyLaw = (commands : List Command) (id : ℕ) → newest_of (own id (sets_of commands)) ≡ policy_of commands id

-- the command at this place made its policy what it then was
pub record IsSetBy (commands : List Command) (place : ℕ) (command : Command) : Type 0 where
  pub policy : Policy
  pub after : policy_of (take (place + 1) commands) (id_of command) ≡ Some policy
  pub at : ℕ
  pub set : slice_get (sets_of commands) at ≡ Some (record { key = id_of command; position = place + 1; value = policy })

-- each of accepted commands but an upgrade made a setting
abbrev pub EachSetLaw : Type 0
EachSetLaw = (commands : List Command) (place : ℕ) (command : Command) → IsAccepted commands → is_upgrade command ≡ false
    → slice_get commands place ≡ Some command → IsSetBy commands place command
