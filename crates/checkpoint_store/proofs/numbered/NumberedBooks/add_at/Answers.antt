-- One policy more stands in the books.
use Rattle.checkpoint_store.proofs.InStore.{up_to_one_more}
use Rattle.checkpoint_store.proofs.numbered.NumberedBooks.add_at.Goals as goal

pub returns-clause-next : goal.returns-clause-next
returns-clause-next c = λ file f first many within room are begun up.
    up_to_one_more file c.args.bytes.now c.bytes_at.result f first many c.args.index c.args.self.now c.add.new.self c.add.result
    within room are c.bytes_at.ensures begun up c.add.ensures.added
