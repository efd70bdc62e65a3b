-- The settings that a list of commands makes: each command of which the rules make a policy gives it a new version
use Rattle.std.specs.Prelude.{ℕ, ◌+◌, List, [], ◌∷◌, ◌++◌, length, Some, None, Option, Ok, Err, Result}
use Rattle.office_state.specs.Names.{cons_option, Command, Policy, id_of, next, policy_of, Setting, Refusal}

-- the policy that a decision makes, as a setting of its number; a refusal makes none
abbrev pub setting_by : ℕ → ℕ → Result Policy Refusal → Option (Setting Policy)
setting_by id position (Ok policy) = Some (record { key = id; position = position; value = policy })
setting_by id position (Err refusal) = None

-- the setting that a command makes after those before it; its position is its place among all, counted from 1
abbrev pub setting_of : List Command → Command → Option (Setting Policy)
setting_of before command =
    setting_by (id_of command) (length before + 1) (next (policy_of before (id_of command)) command)

-- the settings that the rest make after those before
abbrev pub sets_after : List Command → List Command → List (Setting Policy)
sets_after before [] = []
sets_after before (command ∷ rest) = cons_option (setting_of before command) (sets_after (before ++ command ∷ []) rest)

abbrev pub sets_of : List Command → List (Setting Policy)
sets_of commands = sets_after [] commands
