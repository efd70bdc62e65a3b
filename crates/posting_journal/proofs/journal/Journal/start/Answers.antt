-- A file that is to be refused doesn't open, and is refused for no other cause.
use Rattle.posting_journal.specs.Files.{IsJournal}
use Rattle.posting_journal.proofs.Staging.{each_safe}
use Rattle.posting_journal.proofs.Unique.{refusal_never, due_cause}
use Rattle.posting_journal.proofs.journal.Journal.start.Goals as goal

pub returns-in-Ok-clause-opened : goal.returns-in-Ok-clause-opened
returns-in-Ok-clause-opened g c = λ honest.
    let opened = c.in-Ok.ensures.answers.opened honest in
    record {
      bodies = opened.bodies;
      opened = opened.opened;
      holds = opened.holds;
      stands = record {
        count = opened.counted;
        reads = opened.holds;
        images = each_safe g.D.Disk c.open.new.disk (λ image. IsJournal image opened.bodies) opened.safe opened.holds;
      };
      safe = opened.safe;
      moments = c.in-Ok.ensures.synced honest;
    }

pub returns-in-Ok-clause-due : goal.returns-in-Ok-clause-due
returns-in-Ok-clause-due g c = λ cause honest refusal.
    let opened = c.in-Ok.ensures.answers.opened honest in
    refusal_never (g.D.Disk.reads c.args.disk) cause opened.bodies refusal opened.opened

pub returns-in-Err-clause-due : goal.returns-in-Err-clause-due
returns-in-Err-clause-due g c = λ cause honest refusal.
    let bytes = g.D.Disk.reads c.args.disk in
    due_cause bytes c.cause_of-cause.result cause refusal (c.cause_of-cause.ensures.shown bytes (c.in-Err.ensures.answers.refused honest))

pub returns-in-Err-clause-refused : goal.returns-in-Err-clause-refused
returns-in-Err-clause-refused g c = λ honest. c.cause_of-cause.ensures.shown (g.D.Disk.reads c.args.disk) (c.in-Err.ensures.answers.refused honest)

pub returns-in-Err-clause-told : goal.returns-in-Err-clause-told
returns-in-Err-clause-told g c =
    rw c.faults.ensures at c.cause_of-cause.ensures.told (g.D.Disk.faults c.args.disk) c.in-Err.ensures.answers.cause.failed
