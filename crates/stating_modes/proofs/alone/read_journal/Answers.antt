use Rattle.std.proofs.Common.{◌∙◌}
use Rattle.stating_modes.proofs.OpenedTwo.{books_on, no_books}
use Rattle.stating_modes.proofs.alone.read_journal.Goals as goal

pub returns-in-Ok-clause-read : goal.returns-in-Ok-clause-read
returns-in-Ok-clause-read g c disk on =
    let done = c.in-Ok.ensures in
    books_on g.D.Disk g.met.D.Disk.reads_as_image g.met.D.Disk.counts_now disk c.args.journal c.read_books.new.journal on done.stays
    g.met.D.Disk.only_now (done.cause ∙ on.quiet) c.in-Ok.books done.sound done.read c.release.result c.release.ensures

pub returns-in-Err-clause-none : goal.returns-in-Err-clause-none
returns-in-Err-clause-none g c disk on =
    let done = c.in-Err.ensures in
    no_books g.D.Disk g.met.D.Disk.reads_as_image g.met.D.Disk.counts_now disk c.args.journal c.read_books.new.journal on done.stays
    c.in-Err.fault c.cause_of_replay.result c.cause_of_replay.ensures done.cause done.stopped c.release-in-Err.result c.release-in-Err.ensures
