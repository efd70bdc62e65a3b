-- The records behind the checkpoint are decided anew.
use Rattle.checkpoint_store.proofs.Names.{◌≡◌, length, sym, ◌∙◌, subst, rules, IsSnapshotOfAll, IsStartOf, store_disk}
use Rattle.std.proofs.lemmas.Result.{err_from_is_err_and}
use Rattle.checkpoint_store.proofs.StartSteps.{all_reopened, fault_shown, front_books, not_begun}
use Rattle.checkpoint_store.proofs.reopening.reopen_books.Goals as goal

pub returns-in_err-books : goal.returns-in_err-books
returns-in_err-books g c = record {
  cause = search rules;
  store = search rules;
  journal = search rules;
  sound = search rules;
  few = search rules;
  reopened = λ bodies faulted honest honest_first stands true_checkpoint.
      let p = err_from_is_err_and c.from_residual.result c.from_residual.ensures.1 in
      rw (p.1, p.2) (not_begun _ bodies _ _ c.in_err-books.field-0.0 c.in_err-books.ensures.cause);
}

pub returns-in-Ok : goal.returns-in-Ok
returns-in-Ok g c = record {
  cause = search rules;
  store = search rules;
  journal = search rules;
  sound = search rules;
  few = λ honest. record {
    start = c.in_ok-books.books.position;
    begun = subst (λ n. IsStartOf (g.E.Disk.reads (store_disk c.args.store.now)) n c.in_ok-books.books.position) c.count.ensures (c.in_ok-books.ensures.start honest);
    steps = c.in-Ok.ensures.few;
  };
  reopened = λ bodies faulted honest honest_first stands true_checkpoint.
      let counted : c.count.result ≡ length bodies = c.count.ensures ∙ stands.count in
      let before = c.in_ok-books.books in
      let front = c.in_ok-books.ensures.front bodies honest (sym counted) true_checkpoint in
      let books = front_books c.args.journal.now _ bodies faulted honest_first stands before front in
      subst (IsSnapshotOfAll bodies) (sym c.new.ensures)
      (all_reopened c.args.journal.now _ bodies faulted honest_first stands before front c.replay.new.keeper
      (c.in-Ok.ensures.replayed front.commands books (sym front.snapshot.position)));
}

pub returns-in-Err : goal.returns-in-Err
returns-in-Err g c = record {
  cause = search rules;
  store = search rules;
  journal = search rules;
  sound = search rules;
  few = search rules;
  reopened = λ bodies faulted honest honest_first stands true_checkpoint.
      let counted : c.count.result ≡ length bodies = c.count.ensures ∙ stands.count in
      let before = c.in_ok-books.books in
      let front = c.in_ok-books.ensures.front bodies honest (sym counted) true_checkpoint in
      let books = front_books c.args.journal.now _ bodies faulted honest_first stands before front in
      let file = g.E.Disk.reads (store_disk c.args.store.now) in
      let begun = subst (λ n. IsStartOf file n before.position) counted (c.in_ok-books.ensures.start honest) in
      rw c.reopen_fault.ensures
      (fault_shown c.args.journal.now _ bodies faulted honest_first stands before front file c.in-Err.fault begun
      (c.in-Err.ensures.replayed front.commands books (sym front.snapshot.position)));
}
