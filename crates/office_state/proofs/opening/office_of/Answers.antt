-- The books' commands are those of all records, or of those before the one that stops the replay.
use Rattle.office_state.proofs.Names.{refl, rules, ◌∙◌, disk_of, HasNoOffice, as_replay_cause}
use Rattle.office_state.proofs.ReplaySteps.{bodies_replayed, books_stopped}
use Rattle.office_state.proofs.opening.office_of.Goals as goal

pub returns-in-Ok-clause-opened : goal.returns-in-Ok-clause-opened
returns-in-Ok-clause-opened g c =
    let bodies = bodies_replayed g.D.Disk c.args.journal _ c.replay_all.new.keeper (c.in-Ok.ensures.replayed (c.expect.ensures.commands ∙ c.new-books.ensures.empty)) in
    search (rules, bodies)

pub returns-in-Err-clause-none : goal.returns-in-Err-clause-none
returns-in-Err-clause-none g c =
    let disk = disk_of c.replay_all.new.journal in
    let fault = c.in-Err.fault in
    let none : HasNoOffice c.args.journal disk (as_replay_cause fault) = record {
      looked = c.in-Err.ensures.stays.disk;
      fault = fault;
      same = refl;
      told = c.in-Err.ensures.cause;
      stops = books_stopped g.D.Disk c.args.journal disk fault (c.in-Err.ensures.replayed (c.expect.ensures.commands ∙ c.new-books.ensures.empty));
    } in
    rw (c.cause_of_replay.ensures, c.release.ensures) none
