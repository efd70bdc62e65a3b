use Rattle.std.proofs.Common.{refl}
use Rattle.stating_modes.proofs.OpenedTwo.{journal_refused, renamed}
use Rattle.stating_modes.proofs.reopened.reopen_both.Goals as goal

pub returns-in-Ok-clause-reopened : goal.returns-in-Ok-clause-reopened
returns-in-Ok-clause-reopened g c =
    let start = c.in-Ok.ensures in
    c.start_store.ensures.reopened c.args.disk
    (record { quiet = start.quiet; clean = start.clean; honesty = start.honesty; opened = start.opened; opens = start.opens })

pub returns-in-Ok-clause-few : goal.returns-in-Ok-clause-few
returns-in-Ok-clause-few g c =
    let start = c.in-Ok.ensures in
    c.start_store.ensures.few c.args.disk
    (record { quiet = start.quiet; clean = start.clean; honesty = start.honesty; opened = start.opened; opens = start.opens })

pub returns-in-Ok-clause-none : goal.returns-in-Ok-clause-none
returns-in-Ok-clause-none g c =
    let start = c.in-Ok.ensures in
    c.start_store.ensures.none c.args.disk
    (record { quiet = start.quiet; clean = start.clean; honesty = start.honesty; opened = start.opened; opens = start.opens })

pub returns-in-Err-clause-none : goal.returns-in-Err-clause-none
returns-in-Err-clause-none g c =
    let start = c.in-Err.ensures in
    renamed g.D.Disk g.E.Disk c.args.disk _ _ c.args.second _ _ _ c.cause_of.result refl refl c.cause_of.ensures
    (journal_refused g.D.Disk g.E.Disk g.met.D.Disk.reads_as_image c.args.disk c.in-Err.fault.disk c.args.second c.in-Err.fault.cause
    start.told start.honesty start.refused start.opens)
