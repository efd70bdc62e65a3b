use Rattle.versioned_book.proofs.Names.{sym, ap, ◌∙◌, value_at}
use Rattle.versioned_book.proofs.PastSteps.{none_own}
use Rattle.versioned_book.proofs.past.Pasts.value_at.Goals as goal

pub returns-else-is_of-clause-value : goal.returns-else-is_of-clause-value
returns-else-is_of-clause-value g c =
    sym (ap (value_at c.args.p) (none_own c.args.self.now.list.items c.args.place c.args.key (sym c.is_of.ensures ∙ c.if-is_of.false)))
