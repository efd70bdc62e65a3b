use Rattle.policy_machine.specs.Rules.{IsSound}
use Rattle.stating_modes.proofs.ReadingSteps.{account_sound, account_valid}
use Rattle.stating_modes.proofs.accounts.text_of.Goals as goal

pub statement-requires-clause-entries : goal.statement-requires-clause-entries
statement-requires-clause-entries c = rw c.as_slice.ensures.value (account_valid c.args.account.now c.requires.0 c.requires.1)

pub statement-requires-clause-issued : goal.statement-requires-clause-issued
statement-requires-clause-issued c =
    let sound : IsSound c.in-Some.policy = rw c.in-Some.is at (account_sound c.args.account.now c.requires.0 c.requires.1) in
    sound.issue_in.day_in
