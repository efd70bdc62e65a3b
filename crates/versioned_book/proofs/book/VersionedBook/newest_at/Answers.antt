use Rattle.versioned_book.proofs.Names.{sym, ap, ◌∙◌, option_map, deref_pair, newest_of, newest, older_of, olders_in, own}
use Rattle.versioned_book.proofs.Places.{found_at, none_at, within_at}
use Rattle.versioned_book.proofs.VersionSteps.{newest_of-push, newest_of-trimmed}
use Rattle.versioned_book.proofs.book.VersionedBook.newest_at.Goals as goal

pub unwrap-requires : goal.unwrap-requires
unwrap-requires g c = c.get_index.ensures.found.1 (within_at c.args.self.now.chains c.args.place.key c.in-Some.index (sym c.requires ∙ c.in-Some.is))

pub returns-in-Some : goal.returns-in-Some
returns-in-Some g c sets h =
    let pair = c.unwrap.result in
    let entry = sym c.get_index.ensures.entry ∙ ap (option_map deref_pair) c.unwrap.ensures in
    let found = found_at c.args.self.now.chains c.args.place.key c.in-Some.index (sym c.requires ∙ c.in-Some.is) pair.0.now pair.1.now entry in
    sym (newest_of-push (older_of c.args.place.key (olders_in c.args.self.now.pasts)) (newest pair.1.now)) ∙ ap newest_of (h.kept c.args.place.key pair.1.now found) ∙ newest_of-trimmed c.args.self.now.floor (own c.args.place.key sets)

pub returns-in-None : goal.returns-in-None
returns-in-None g c sets h =
    sym (ap newest_of (h.absent c.args.place.key (none_at c.args.self.now.chains c.args.place.key (sym c.requires ∙ c.in-None.is))))
