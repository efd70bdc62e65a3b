-- What the rules make of the command is set.
use Rattle.checkpoint_store.proofs.Names.{rules, ◌≡◌, ◌+◌, ◌<◌, ◌∷◌, ◌++◌, [], ◌∙◌, sym, ap, Ok, arith, refusal_in, AreBooksOf, AreSoundBooks, HasSetPolicy}
use Rattle.policy_types.specs.Limits.{most_commands}
use Rattle.checkpoint_store.proofs.Taking.{books_more, books_upgraded, judged_same, kept_or, left_number, on_map, refused, sound_more, sound_upgraded}
use Rattle.checkpoint_store.proofs.keeping.NumberedBooksKeeper.add.Goals as goal

pub returns-in_default-clause-kept : goal.returns-in_default-clause-kept
returns-in_default-clause-kept c = λ commands of counted.
    refused commands c.args.self.now c.args.command.now _ of c.requires.takes.0.keyed (sym c.judgement-index.ensures.judged ∙ c.in_default.is)

pub returns-in-Some-clause-takes : goal.returns-in-Some-clause-takes
returns-in-Some-clause-takes c =
    let old = c.args.self.now in
    let new = c.set.new.self in
    let policy = c.in-Some.policy in
    let command = c.args.command.now in
    let is = sym c.judgement-index.ensures.judged ∙ c.in-Ok.is ∙ ap Ok c.in-Some.is in
    let few : old.position < most_commands = omega (arith, c.requires.takes.1, c.requires.few) in
    on_map c.set.result (HasSetPolicy old new command policy) (AreSoundBooks new × (new.position ≡ c.args.n + 1))
    (λ taken. (
      sound_more old new command policy c.requires.takes.0 taken (search rules) (left_number old command policy c.requires.takes.0.keyed is) c.requires.valid few,
      omega (arith, taken.position, c.requires.takes.1),
    )) c.set.ensures.taken

pub returns-in-Some-clause-kept : goal.returns-in-Some-clause-kept
returns-in-Some-clause-kept c = λ commands of counted.
    let old = c.args.self.now in
    let new = c.set.new.self in
    let policy = c.in-Some.policy in
    let command = c.args.command.now in
    let is = sym c.judgement-index.ensures.judged ∙ c.in-Ok.is ∙ ap Ok c.in-Some.is in
    kept_or c.set.result commands command (AreBooksOf (commands ++ command ∷ []) new)
    (ap refusal_in (sym (judged_same commands old command of c.requires.takes.0.keyed) ∙ is))
    (on_map c.set.result (HasSetPolicy old new command policy) (AreBooksOf (commands ++ command ∷ []) new)
    (λ taken. books_more commands old new command policy of c.requires.takes.0.keyed is taken c.requires.valid) c.set.ensures.taken) c.set.ensures.memory

pub returns-in-None-clause-takes : goal.returns-in-None-clause-takes
returns-in-None-clause-takes c =
    let old = c.args.self.now in
    let few : old.position < most_commands = omega (arith, c.requires.takes.1, c.requires.few) in
    (sound_upgraded old c.requires.takes.0 few, omega (arith, c.requires.takes.1))

pub returns-in-None-clause-kept : goal.returns-in-None-clause-kept
returns-in-None-clause-kept c = λ commands of counted.
    books_upgraded commands c.args.self.now c.args.command.now of c.requires.takes.0.keyed (sym c.judgement-index.ensures.judged ∙ c.in-Ok.is ∙ ap Ok c.in-None.is)
