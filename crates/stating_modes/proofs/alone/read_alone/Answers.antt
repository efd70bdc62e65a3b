use Rattle.stating_modes.proofs.OpenedTwo.{not_begun}
use Rattle.stating_modes.proofs.alone.read_alone.Goals as goal

pub returns-in-Ok-clause-read : goal.returns-in-Ok-clause-read
returns-in-Ok-clause-read g c =
    let start = c.in-Ok.ensures in
    c.read_journal.ensures.read c.args.disk
    (record { quiet = start.quiet; clean = start.clean; honesty = start.honesty; opened = start.opened; opens = start.opens })

pub returns-in-Ok-clause-none : goal.returns-in-Ok-clause-none
returns-in-Ok-clause-none g c =
    let start = c.in-Ok.ensures in
    c.read_journal.ensures.none c.args.disk
    (record { quiet = start.quiet; clean = start.clean; honesty = start.honesty; opened = start.opened; opens = start.opens })

pub returns-in-Err-clause-none : goal.returns-in-Err-clause-none
returns-in-Err-clause-none g c =
    let start = c.in-Err.ensures in
    not_begun g.D.Disk g.met.D.Disk.reads_as_image c.args.disk c.in-Err.fault.disk c.in-Err.fault.cause c.cause_of.result c.cause_of.ensures
    start.told start.honesty start.refused start.opens
