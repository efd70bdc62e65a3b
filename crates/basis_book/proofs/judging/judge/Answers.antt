use Rattle.basis_book.proofs.Names.{sym, subst, IsRow}
use Rattle.basis_book.proofs.Additions.{falls_here, AreRows-push}
use Rattle.basis_book.proofs.judging.judge.Goals as goal

pub returns-then-not-is_after : goal.returns-then-not-is_after
returns-then-not-is_after c = λ rows row three h n most.
    let spelled = rw c.in-Ok-Some.field-0-is at c.in-Ok-Some.ensures in
    let same = rw c.in-Some.is at three in
    falls_here rows c.args.found.now.items row c.in-Ok-Some.row c.args.number h n most (subst (λ x. IsRow x c.in-Ok-Some.row) (sym same) spelled)
    (rw c.as_slice.ensures.value at c.if-not-is_after.ensures)

pub returns-in-Ok : goal.returns-in-Ok
returns-in-Ok c = λ rows row three h n most.
    let spelled = rw c.in-Ok-Some.field-0-is at c.in-Ok-Some.ensures in
    let same = rw c.in-Some.is at three in
    rw c.in-Ok.ensures.items (AreRows-push rows c.args.found.now.items row c.in-Ok-Some.row h (subst (λ x. IsRow x c.in-Ok-Some.row) (sym same) spelled)
    (rw c.as_slice.ensures.value at c.if-not-is_after.ensures))
