-- The command makes its policy's newest version, at its own number.
use Rattle.office_state.proofs.Names.{IfOk, subst, id_of, policy_of, IsSound, policy_of-sound}
use Rattle.policy_machine.proofs.SoundLemmas.{next-sound}
use Rattle.office_state.proofs.KeepingSteps.{has_room, keeps_more, some_book}
use Rattle.office_state.proofs.books.Books.keep_policy.Goals as goal

pub post-requires-clause-amount : goal.post-requires-clause-amount
post-requires-clause-amount c =
    let old = c.args.self.now in
    let commands = old.accepted.commands in
    let command = c.args.command.now in
    let sound = subst (λ r. IfOk r IsSound) c.requires.accepted
    (next-sound (policy_of commands (id_of command)) command c.requires.valid (policy_of-sound commands (id_of command) old.kept.valid)) in
    sound.issue_in.amount_in.1

pub post-requires-clause-room : goal.post-requires-clause-room
post-requires-clause-room c =
    let old = c.args.self.now in has_room old.versions old.count old.upgrade old.ledger old.accepted.commands old.kept

pub set_at-requires-clause-stands : goal.set_at-requires-clause-stands
set_at-requires-clause-stands c =
    let old = c.args.self.now in some_book old.versions old.count old.upgrade old.ledger old.accepted.commands old.kept

pub invariant_of-self : goal.invariant_of-self
invariant_of-self c =
    let old = c.args.self.now in
    record {
      kept = rw c.with-self.ensures (keeps_more old.versions c.set_at.new.self old.count old.upgrade old.ledger c.post.new.self old.accepted.commands c.args.command.now c.args.policy c.requires.valid
          c.requires.few old.kept c.requires.accepted c.requires.judged c.requires.named (rw c.requires.place.1 at c.set_at.ensures.book) c.set_at.ensures.floor.1 c.post.ensures);
    }
