use Rattle.stating_modes.proofs.Names.{[], policy_account, IsStated, ends_refused}
use Rattle.office_state.specs.States.{begun_of, opening_of}
use Rattle.stating_modes.proofs.StateSteps.{ends_reading, opened_left}
use Rattle.stating_modes.proofs.accounts.account.Goals as goal

pub returns-in-Ok : goal.returns-in-Ok
returns-in-Ok g c =
    let opened = c.in-Ok.ensures.opened in
    let closed = c.close-disk.ensures.left [] opened.stands in
    ends_reading g.D.Disk g.met.D.Disk.counts_now g.met.D.Disk.reads_as_image c.args.disk c.close-disk.result.0 c.write_account.result.disk c.args.id _
    (opening_of c.in-Ok.office).commands
    (opened_left g.D.Disk (begun_of c.in-Ok.office) c.args.disk c.close-disk.result.0 (opening_of c.in-Ok.office).commands opened.begun closed)
    c.write_account.result.ending c.write_account.ensures

pub returns-in-Err : goal.returns-in-Err
returns-in-Err g c =
    ends_refused g.D.Disk c.args.disk c.in-Err.fault.disk (IsStated g.D.Disk c.args.disk c.in-Err.fault.disk (policy_account c.args.id)) _ c.in-Err.fault.cause c.refuse_journal.result
    c.in-Err.ensures.refused c.refuse_journal.ensures.says
