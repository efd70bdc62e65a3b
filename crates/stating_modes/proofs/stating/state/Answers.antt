use Rattle.stating_modes.proofs.Names.{◌≡◌, List, ℕ, subst, IfOk, ends_refused, books_of, IsStated}
use Rattle.stating_modes.proofs.EmptyFiles.{text_same}
use Rattle.stating_modes.proofs.StateSteps.{ends_text}
use Rattle.stating_modes.proofs.stating.state.Goals as goal

pub returns-in-Ok : goal.returns-in-Ok
returns-in-Ok g c =
    let books = c.in-Ok.ensures.read in
    ends_text g.D.Disk c.args.disk c.in-Ok.read.disk books_of _ books.commands c.write_text.result c.text_of.result books.disk
    (subst (λ (text : List ℕ). IfOk c.text_of.result (λ t. t.items ≡ text)) (text_same books.commands _ books.leave) c.text_of.ensures)
    c.write_text.ensures

pub returns-in-Err : goal.returns-in-Err
returns-in-Err g c =
    ends_refused g.D.Disk c.args.disk c.in-Err.fault.disk (IsStated g.D.Disk c.args.disk c.in-Err.fault.disk books_of) _ c.in-Err.fault.cause c.refuse_journal.result
    c.in-Err.ensures.none c.refuse_journal.ensures.says
