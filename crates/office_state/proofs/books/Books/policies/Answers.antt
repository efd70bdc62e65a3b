-- The keys that were set by a position are the policies issued by then.
use Rattle.office_state.proofs.Names.{◌∙◌, sets_of}
use Rattle.office_state.proofs.BookValues.{key_count}
use Rattle.office_state.proofs.books.Books.policies.Goals as goal

pub returns : goal.returns
returns c =
    let books = c.args.self.now in
    c.count_at.ensures (sets_of books.accepted.commands) books.kept.set ∙ key_count books.accepted.commands c.args.p books.kept.accepted
