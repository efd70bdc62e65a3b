-- What one more command sets, and how many settings there are
use Rattle.std.specs.Prelude.{◌≡◌, ℕ, ◌+◌, ◌-◌, ◌≤◌, List, [], ◌∷◌, ◌++◌, length, Ok, Err}
use Rattle.office_state.specs.Names.{filter, Command, Upgrade, Policy, id_of, is_upgrade, next, policy_of, IsAccepted, IsRisingTo, positions, settings_after, Refusal}
use Rattle.office_state.specs.versions.Commands.{sets_of}

-- one more accepted command sets its policy at the next position
abbrev pub AcceptedSetLaw : Type 0
AcceptedSetLaw = (commands : List Command) (command : Command) (policy : Policy)
    → next (policy_of commands (id_of command)) command ≡ Ok policy
    → sets_of (commands ++ command ∷ [])
    ≡ sets_of commands ++ record { key = id_of command; position = length commands + 1; value = policy } ∷ []

-- a refused one sets nothing
abbrev pub RefusedSetLaw : Type 0
RefusedSetLaw = (commands : List Command) (command : Command) (refusal : Refusal)
    → next (policy_of commands (id_of command)) command ≡ Err refusal
    → sets_of (commands ++ command ∷ []) ≡ sets_of commands

-- the positions rise from 1 on up to the number of commands
abbrev pub RisingLaw : Type 0
RisingLaw = (commands : List Command) → IsRisingTo 0 (positions (sets_of commands)) (length commands)

-- accepted commands make one setting each, but for an upgrade, which makes none
abbrev pub SetCountLaw : Type 0
SetCountLaw = (commands : List Command) → IsAccepted commands
    → length (sets_of commands) + length (filter is_upgrade commands) ≡ length commands

-- an upgrade sets nothing
abbrev pub UpgradeSetLaw : Type 0
UpgradeSetLaw = (commands : List Command) → sets_of (commands ++ Upgrade ∷ []) ≡ sets_of commands

-- there are no more settings after a floor than commands
abbrev pub SetsAfterLaw : Type 0
SetsAfterLaw = (commands : List Command) (floor : ℕ)
    → length (settings_after floor (sets_of commands)) ≤ length commands - floor
