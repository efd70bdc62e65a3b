-- The policies of a piece stand in the books.
use Rattle.checkpoint_store.proofs.stored.add_piece.Goals as goal

pub returns-clause-begun : goal.returns-clause-begun
returns-clause-begun g c = c.add_all.ensures.begun c.args.front c.args.first c.requires.begun

pub returns-clause-next : goal.returns-clause-next
returns-clause-next g c = λ honest up.
    c.add_all.ensures.next (g.E.Disk.reads c.args.disk.now) c.args.front c.args.first c.requires.within (c.in_ok-read_piece.ensures.bytes honest) c.requires.begun up
