-- The policy that the command names is among the books.
use Rattle.checkpoint_store.proofs.Names.{rules, id_of}
use Rattle.checkpoint_store.proofs.Taking.{look_own, look_sound}
use Rattle.checkpoint_store.proofs.numbered.NumberedBooks.judgement.Goals as goal

pub judge-requires-clause-own : goal.judge-requires-clause-own
judge-requires-clause-own c =
    let found = look_own (id_of c.args.command.now) c.args.self.now.policies.entries c.requires.sound.keyed in
    search (rules, found)

pub judge-requires-clause-sound : goal.judge-requires-clause-sound
judge-requires-clause-sound c =
    let found = look_sound (id_of c.args.command.now) c.args.self.now.policies.entries c.requires.sound.sound.sound in
    search (rules, found)
