-- A gate that isn't known to be closed is closed first.
use Rattle.checkpoint_store.proofs.Names.{rules}
use Rattle.checkpoint_store.proofs.Stages.{not_new, then_saved}
use Rattle.checkpoint_store.proofs.store.Store.write.Goals as goal

pub returns-in_err-close-clause-saves : goal.returns-in_err-close-clause-saves
returns-in_err-close-clause-saves g c = λ honest knows. record {
  saved = search rules;
  left = not_new g.E.Disk c.args.self.now c.close.new.self c.args.snapshot.now (c.close.ensures.left honest knows);
}

pub returns-clause-saves : goal.returns-clause-saves
returns-clause-saves g c = λ honest knows.
    let first = c.close.ensures.left (c.replace-2.ensures.disk.honesty honest) knows in
    let second = c.replace-2.ensures.saves honest first.knows in
    record { saved = second.saved; left = then_saved g.E.Disk c.args.self.now c.close.new.self c.replace-2.new.self c.args.snapshot.now first second.left }
