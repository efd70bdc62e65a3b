use Rattle.stating_modes.proofs.StateSteps.{reading_ends, reading_refused}
use Rattle.stating_modes.proofs.accounts.write_account.Goals as goal

pub returns-in-Ok : goal.returns-in-Ok
returns-in-Ok g c =
    reading_ends g.D.Disk c.args.disk c.in-Ok.read.disk c.args.id _ c.in-Ok.read.account c.write_text.result c.text_of.result
    c.in-Ok.ensures.read c.text_of.ensures c.write_text.ensures

pub returns-in-Err : goal.returns-in-Err
returns-in-Err g c =
    reading_refused g.D.Disk c.args.disk c.in-Err.fault.disk c.args.id _ c.in-Err.fault.cause c.refuse_journal.result
    c.in-Err.ensures.stopped c.refuse_journal.ensures.says
