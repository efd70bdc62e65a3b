-- The newest version of the number is its policy, and the place of the upgrade is kept.
use Rattle.office_state.proofs.Names.{id_of, ◌≡◌, ap, subst, sym, ◌∙◌, IfSome, judged, policy_of, IsSound, policy_of-own, policy_of-sound, sets_of}
use Rattle.office_state.proofs.PolicyValues.{newest_of-sets_of}
use Rattle.office_state.proofs.books.Books.judgement.Goals as goal

pub judge-requires-clause-own : goal.judge-requires-clause-own
judge-requires-clause-own c =
    let books = c.args.self.now in
    let commands = books.accepted.commands in
    let id = id_of c.args.command.now in
    let found = c.as_ref.ensures.value ∙ c.newest_at-policy.ensures (sets_of commands) books.kept.set ∙ newest_of-sets_of commands c.args.place.key ∙ ap (policy_of commands) c.requires.place.1 in
    subst (λ found. IfSome found (λ p. p.id ≡ id)) (sym found) (policy_of-own commands id)

pub judge-requires-clause-sound : goal.judge-requires-clause-sound
judge-requires-clause-sound c =
    let books = c.args.self.now in
    let commands = books.accepted.commands in
    let id = id_of c.args.command.now in
    let found = c.as_ref.ensures.value ∙ c.newest_at-policy.ensures (sets_of commands) books.kept.set ∙ newest_of-sets_of commands c.args.place.key ∙ ap (policy_of commands) c.requires.place.1 in
    subst (λ found. IfSome found IsSound) (sym found) (policy_of-sound commands id books.kept.valid)

pub returns : goal.returns
returns c =
    let books = c.args.self.now in
    let commands = books.accepted.commands in
    let found = c.as_ref.ensures.value ∙ c.newest_at-policy.ensures (sets_of commands) books.kept.set ∙ newest_of-sets_of commands c.args.place.key ∙ ap (policy_of commands) c.requires.place.1 in
    c.judge.ensures.judged ∙ ap (λ found. judged books.upgrade found c.args.command.now) found
    ∙ ap (λ place. judged place (policy_of commands (id_of c.args.command.now)) c.args.command.now) books.kept.upgraded
