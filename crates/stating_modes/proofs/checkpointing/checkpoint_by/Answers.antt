use Rattle.std.proofs.Common.{refl}
use Rattle.stating_modes.proofs.EndingSteps.{checkpoint_unopened, ends_checkpoint}
use Rattle.stating_modes.proofs.checkpointing.checkpoint_by.Goals as goal

pub returns-in-Ok : goal.returns-in-Ok
returns-in-Ok g c =
    ends_checkpoint g.D.Disk g.E.Disk c.args.disk c.args.second c.in-Ok.opened c.in-Ok.ensures.reopened _ g.met.E.Disk.only_now
    (record { books = c.in-Ok.opened.books; journal = c.in-Ok.opened.journal; store = c.save_books-ending.new.store }) c.close.result c.save_books-ending.result refl c.close.ensures.disk c.close.ensures.second c.close.ensures.ending c.save_books-ending.ensures

pub returns : goal.returns
returns g c =
    checkpoint_unopened g.D.Disk g.E.Disk g.met.E.Disk.only_now _ _ c.in-Err.none.cause c.in-Err.ensures.none c.refuse_journal.result c.refuse_journal.ensures.says
