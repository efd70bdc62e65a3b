-- What start says of the disk, and what the replay says of the journal.
use Rattle.office_state.proofs.Names.{ap, subst, IsOfficeOf}
use Rattle.std.proofs.lemmas.Result.{MatchResult-weaker}
use Rattle.office_state.proofs.OpeningSteps.{IsStarted, not_started}
use Rattle.office_state.proofs.OpenedSteps.{no_office, made_office}
use Rattle.office_state.proofs.state.OfficeState.open.Goals as goal

pub returns-in-Ok-clause-opened : goal.returns-in-Ok-clause-opened
returns-in-Ok-clause-opened g c =
    let start = c.in-Ok.ensures in
    let started : IsStarted {g = g.D.Disk} c.args.disk c.in-Ok.journal = record {
      quiet = start.quiet;
      clean = start.clean;
      honesty = start.honesty;
      opened = start.opened;
      opens = start.opens;
    } in
    MatchResult-weaker c.office_of.result {P = λ state. IsOfficeOf c.in-Ok.journal c.of-begun.result.value c.args.watchers c.args.outlet.ring state}
    c.office_of.ensures.opened
    (λ state made. made_office g.D.Disk c.args.disk c.in-Ok.journal started c.args.watchers c.requires.fresh c.args.outlet.ring c.requires.untold c.requires.room state
    (subst (λ begun. IsOfficeOf c.in-Ok.journal begun c.args.watchers c.args.outlet.ring state) c.of-begun.ensures made)
    g.met.D.Disk.counts_now g.met.D.Disk.reads_as_image g.met.D.Disk.only_now)
    (λ fault u. u)

pub returns-in-Ok-clause-auditors : goal.returns-in-Ok-clause-auditors
returns-in-Ok-clause-auditors g c =
    MatchResult-weaker c.office_of.result c.office_of.ensures.opened (λ state made. ap g.W.Watching.handed made.watched) (λ fault u. u)

pub returns-in-Ok-clause-refused : goal.returns-in-Ok-clause-refused
returns-in-Ok-clause-refused g c =
    let start = c.in-Ok.ensures in
    let started : IsStarted {g = g.D.Disk} c.args.disk c.in-Ok.journal = record {
      quiet = start.quiet;
      clean = start.clean;
      honesty = start.honesty;
      opened = start.opened;
      opens = start.opens;
    } in
    let left = no_office g.D.Disk c.args.disk c.in-Ok.journal started g.met.D.Disk.counts_now g.met.D.Disk.reads_as_image in
    MatchResult-weaker c.office_of.result c.office_of.ensures.none (λ state u. u)
    (λ fault none. left fault.disk fault.cause none)

pub returns-in-Err-clause-refused : goal.returns-in-Err-clause-refused
returns-in-Err-clause-refused g c =
    let start = c.in-Err.ensures in
    rw c.cause_of.ensures
    (not_started g.D.Disk c.args.disk g.met.D.Disk.reads_as_image c.in-Err.fault.disk c.in-Err.fault.cause start.told start.honesty
    start.refused start.opens)
