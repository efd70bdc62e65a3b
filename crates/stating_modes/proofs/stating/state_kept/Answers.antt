use Rattle.stating_modes.proofs.EndingSteps.{ends_state, few_read, state_unopened, untold}
use Rattle.stating_modes.proofs.stating.state_kept.Goals as goal

pub returns-in-Ok-clause-few : goal.returns-in-Ok-clause-few
returns-in-Ok-clause-few g c = λ told.
    few_read g.D.Disk g.E.Disk c.args.disk c.args.second c.in-Ok.opened c.close.result _ _
    c.close.ensures.disk c.close.ensures.second c.in-Ok.ensures.few

pub returns-in-Ok-clause-ends : goal.returns-in-Ok-clause-ends
returns-in-Ok-clause-ends g c =
    ends_state g.D.Disk g.E.Disk c.args.disk c.args.second c.in-Ok.opened c.in-Ok.ensures.reopened _ c.close.result c.text_of-text.result c.write_text-ending.result
    c.close.ensures.disk c.close.ensures.second c.close.ensures.ending c.text_of-text.ensures c.write_text-ending.ensures

pub returns-in-Err-clause-few : goal.returns-in-Err-clause-few
returns-in-Err-clause-few g c = λ told. absurd (untold c.in-Err.none.cause _ c.refuse_journal.result c.refuse_journal.ensures.says told)

pub returns-in-Err-clause-ends : goal.returns-in-Err-clause-ends
returns-in-Err-clause-ends g c =
    state_unopened g.D.Disk g.E.Disk g.met.E.Disk.only_now _ _ c.in-Err.none.cause c.in-Err.ensures.none c.refuse_journal.result c.refuse_journal.ensures.says
