-- The value at a position is the policy there, found in few looks.
use Rattle.office_state.proofs.Names.{◌≡◌, length, take, ◌∙◌, arith, book, sets_of, keys_of, until}
use Rattle.office_state.proofs.BookValues.{index_placed, key_count}
use Rattle.office_state.proofs.FillingSteps.{looks_few}
use Rattle.office_state.proofs.books.Books.policy_counted.Goals as goal

pub at-requires-clause-stands : goal.at-requires-clause-stands
at-requires-clause-stands g c =
    let books = c.args.self.now in
    let commands = books.accepted.commands in
    let many : length (keys_of (until c.args.p (sets_of commands))) ≡ length (book (take c.args.p commands)) =
    key_count commands c.args.p books.kept.accepted in
    (sets_of commands, books.kept.set, omega (arith, many, c.requires.within))

pub returns-clause-policy : goal.returns-clause-policy
returns-clause-policy g c =
    let books = c.args.self.now in
    let commands = books.accepted.commands in
    let placed = index_placed commands c.args.p c.args.index books.kept.accepted c.requires.within in
    placed.policy ∙ c.at.ensures.value (sets_of commands) placed.key books.kept.set placed.place

pub returns-clause-looks : goal.returns-clause-looks
returns-clause-looks g c =
    let books = c.args.self.now in
    let commands = books.accepted.commands in
    let placed = index_placed commands c.args.p c.args.index books.kept.accepted c.requires.within in
    looks_few commands books.versions.floor placed.key c.args.steps.now c.at.new.steps books.kept.accepted books.kept.few
    (c.at.ensures.looks (sets_of commands) placed.key books.kept.set placed.place)
