-- The upgrade is kept with its place, and sets no version.
use Rattle.office_state.proofs.KeepingSteps.{keeps_upgrade}
use Rattle.office_state.proofs.books.Books.keep_upgrade.Goals as goal

pub invariant_of-self : goal.invariant_of-self
invariant_of-self c =
    let old = c.args.self.now in
    record {
      kept = rw c.with-self.ensures (keeps_upgrade old.versions c.pass.new.self old.count old.upgrade c.upgrade_place-self.result old.ledger old.accepted.commands
          c.args.command.now c.requires.upgrade c.requires.few old.kept c.requires.judged c.upgrade_place-self.ensures c.pass.ensures.book c.pass.ensures.floor.1);
    }
