-- What was accepted made a policy, or is an upgrade.
use Rattle.office_state.proofs.Names.{Ok, Option, ap, ◌∙◌, Policy, id_of, policy_of, refusal_in, upgrade_of, judged_none, judged_some, next-no_upgrade, commands_in}
use Rattle.office_state.proofs.books.Books.keep.Goals as goal

pub keep_policy-requires-clause-accepted : goal.keep_policy-requires-clause-accepted
keep_policy-requires-clause-accepted c =
    let commands = commands_in c.args.self.now in
    let command = c.args.command.now in
    judged_some (upgrade_of commands) (policy_of commands (id_of command)) command c.in-Some.policy
    (c.requires.accepted ∙ ap (λ (left : Option Policy). Ok left) c.in-Some.is)

pub keep_policy-requires-clause-judged : goal.keep_policy-requires-clause-judged
keep_policy-requires-clause-judged c = ap refusal_in c.requires.accepted

pub keep_policy-requires-clause-named : goal.keep_policy-requires-clause-named
keep_policy-requires-clause-named c =
    let commands = commands_in c.args.self.now in
    let command = c.args.command.now in
    next-no_upgrade (policy_of commands (id_of command)) command c.in-Some.policy
    (judged_some (upgrade_of commands) (policy_of commands (id_of command)) command c.in-Some.policy
    (c.requires.accepted ∙ ap (λ (left : Option Policy). Ok left) c.in-Some.is))

pub keep_upgrade-requires-clause-judged : goal.keep_upgrade-requires-clause-judged
keep_upgrade-requires-clause-judged c = ap refusal_in c.requires.accepted

pub keep_upgrade-requires-clause-upgrade : goal.keep_upgrade-requires-clause-upgrade
keep_upgrade-requires-clause-upgrade c =
    let commands = commands_in c.args.self.now in
    let command = c.args.command.now in
    judged_none (upgrade_of commands) (policy_of commands (id_of command)) command
    (c.requires.accepted ∙ ap (λ (left : Option Policy). Ok left) c.in-None.is)
