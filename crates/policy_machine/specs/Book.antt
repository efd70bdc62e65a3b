-- The book: the policies that a list of accepted commands leaves
use Rattle.std.specs.Prelude.{◌≡◌, ℕ, ◌+◌, ◌==◌, if◌then◌else◌, List, [], ◌∷◌, ◌++◌, Some, None, Option, Ok, Err, Result}
use Rattle.policy_machine.specs.Names.{filter, filter_map, fold, option_or, result_ok, result_err, result_map_both, Command, Issue, PaidUp, Upgrade, Policy, Refusal, NotUpgraded, Upgraded, id_of, is_upgrade}
use Rattle.policy_machine.specs.Rules.{next}

-- none at first, then changed in turn by each command of the list that names the number; a refused command changes
-- nothing
abbrev pub policy_of : List Command → ℕ → Option Policy
policy_of commands id =
    fold (λ policy command. option_or (result_ok (next policy command)) policy) None
    (filter (λ command. id_of command == id) commands)

-- the number that an issue gives
abbrev pub issue_id : Command → Option ℕ
issue_id (Issue id day plan age years amount premium) = Some id
issue_id _ = None

-- the policies in order of issue
abbrev pub book : List Command → List Policy
book commands = filter_map (policy_of commands) (filter_map issue_id commands)

-- the place of the first upgrade, counted from 1; 0 if there is none
abbrev pub upgrade_of : List Command → ℕ
upgrade_of commands = from 1 commands
  where
    from : ℕ → List Command → ℕ
    from place [] = 0
    from place (command ∷ rest) = if is_upgrade command then place else from (place + 1) rest

-- What the rules make of a command, given the place of the upgrade before it, or 0, and the policy that it names: the
-- refusal that is due, or the policy that the command leaves, which is none for an upgrade. A second upgrade is
-- refused with the place of the first, and before the first no policy can be made paid up.
abbrev pub judged : ℕ → Option Policy → Command → Result (Option Policy) Refusal
judged upgrade policy Upgrade = if upgrade == 0 then Ok None else Err (Upgraded upgrade)
judged upgrade policy (PaidUp id day amount) =
    if upgrade == 0 then Err NotUpgraded else result_map_both Some (λ refusal. refusal) (next policy (PaidUp id day amount))
judged upgrade policy command = result_map_both Some (λ refusal. refusal) (next policy command)

-- why the rules refuse a command after these commands, if they do
abbrev pub judge : List Command → Command → Option Refusal
judge before command = result_err (judged (upgrade_of before) (policy_of before (id_of command)) command)

-- what the rules make of the command, as an office keeps it
abbrev pub judged_after : List Command → Command → Result (Option Policy) Refusal
judged_after before command = judged (upgrade_of before) (policy_of before (id_of command)) command

-- the rules accept each command of rest after the commands before it
abbrev pub IsAcceptedAfter : List Command → List Command → Type 0
IsAcceptedAfter before [] = Unit {0}
IsAcceptedAfter before (command ∷ rest) = (judge before command ≡ None) × IsAcceptedAfter (before ++ command ∷ []) rest

abbrev pub IsAccepted : List Command → Type 0
IsAccepted commands = IsAcceptedAfter [] commands

-- what no command changes of a policy
pub record IsSameContract (before after : Policy) : Type 0 where
  pub same_id : after.id ≡ before.id
  pub same_plan : after.plan ≡ before.plan
  pub same_age : after.age ≡ before.age
  pub same_years : after.years ≡ before.years
  pub same_issued : after.issued ≡ before.issued
