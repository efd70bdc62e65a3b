use Rattle.std.proofs.Common.{Some, None}
use Rattle.policy_machine.proofs.SoundLemmas.{next-sound}
use Rattle.policy_machine.proofs.decision.decide.Goals as goal

pub returns-in-Some-clause-sound : goal.returns-in-Some-clause-sound
returns-in-Some-clause-sound c =
    rw c.change.ensures (next-sound (Some c.in-Some.policy.now) c.args.command.now c.requires.valid (rw c.in-Some.is at c.requires.sound))

pub returns-in-None-clause-sound : goal.returns-in-None-clause-sound
returns-in-None-clause-sound c = rw c.begin.ensures (next-sound None c.args.command.now c.requires.valid tt)
