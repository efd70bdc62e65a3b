use Rattle.std.proofs.Common.{refl}
use Rattle.stating_modes.proofs.OpenedTwo.{has_no_snapshot, has_reopened, reads_few, renamed}
use Rattle.stating_modes.proofs.reopened.read_snapshot.Goals as goal

pub returns-in-Ok-clause-reopened : goal.returns-in-Ok-clause-reopened
returns-in-Ok-clause-reopened g c disk second on under =
    let done = c.in-Ok.ensures in
    has_reopened g.D.Disk g.E.Disk g.met.D.Disk.reads_as_image g.met.D.Disk.counts_now disk c.args.journal c.reopen_books.new.journal on done.journal
    second c.args.store c.reopen_books.new.store under done.store g.met.D.Disk.only_now _ refl refl _ _ done

pub returns-in-Ok-clause-few : goal.returns-in-Ok-clause-few
returns-in-Ok-clause-few g c disk second on under =
    let done = c.in-Ok.ensures in
    reads_few g.D.Disk g.E.Disk g.met.D.Disk.reads_as_image g.met.D.Disk.counts_now disk c.args.journal c.reopen_books.new.journal on done.journal
    second c.args.store c.reopen_books.new.store under done.store _ _ done.few

pub returns-in-Err-clause-none : goal.returns-in-Err-clause-none
returns-in-Err-clause-none g c disk second on under =
    let done = c.in-Err.ensures in
    renamed g.D.Disk g.E.Disk disk _ c.unread.result.disk second _ c.unread.result.second _ c.unread.result.cause
    c.unread.ensures.disk c.unread.ensures.second c.unread.ensures.cause
    (has_no_snapshot g.D.Disk g.E.Disk g.met.D.Disk.reads_as_image g.met.D.Disk.counts_now disk c.args.journal c.reopen_books.new.journal on done.journal
    second c.args.store c.reopen_books.new.store under done.store c.in-Err.fault _ _ done)
