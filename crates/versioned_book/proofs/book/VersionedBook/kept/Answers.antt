use Rattle.versioned_book.proofs.Names.{sym, subst, ◌≤◌, ◌+◌, length, settings_after, keys_of}
use Rattle.versioned_book.proofs.KeptFew.{kept_few}
use Rattle.versioned_book.proofs.book.VersionedBook.kept.Goals as goal

pub returns-clause-few : goal.returns-clause-few
returns-clause-few g c sets h =
    subst (λ n. n ≤ length (keys_of sets) + length (settings_after c.args.self.now.floor sets)) (sym h.count) (kept_few c.args.self.now sets h)
