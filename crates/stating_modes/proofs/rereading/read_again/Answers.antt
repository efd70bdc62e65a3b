use Rattle.std.proofs.lemmas.Result.{MatchResult-weaker}
use Rattle.office_state.proofs.OpeningSteps.{IsStarted}
use Rattle.stating_modes.proofs.ReadingSteps.{has_read, has_stopped}
use Rattle.stating_modes.proofs.rereading.read_again.Goals as goal

pub returns-in-Ok-clause-read : goal.returns-in-Ok-clause-read
returns-in-Ok-clause-read g c =
    let start = c.in-Ok.ensures in
    let started : IsStarted {g = g.D.Disk} c.args.disk c.in-Ok.journal =
    record { quiet = start.quiet; clean = start.clean; honesty = start.honesty; opened = start.opened; opens = start.opens } in
    MatchResult-weaker c.read_journal.result c.read_journal.ensures.read
    (λ read from. has_read g.D.Disk c.args.disk c.in-Ok.journal started read.disk read.account c.args.id from)
    (λ fault u. u)

pub returns-in-Ok-clause-stopped : goal.returns-in-Ok-clause-stopped
returns-in-Ok-clause-stopped g c =
    let start = c.in-Ok.ensures in
    let started : IsStarted {g = g.D.Disk} c.args.disk c.in-Ok.journal =
    record { quiet = start.quiet; clean = start.clean; honesty = start.honesty; opened = start.opened; opens = start.opens } in
    MatchResult-weaker c.read_journal.result c.read_journal.ensures.stopped (λ read u. u)
    (λ fault from. has_stopped g.D.Disk c.args.disk c.in-Ok.journal started fault.disk fault.cause from)
