use Rattle.basis_book.proofs.Names.{sym, ◌∙◌, lit<, fields_of}
use Rattle.basis_book.proofs.ThreeFields.{not_three, all_three}
use Rattle.basis_book.proofs.file.three_fields.Goals as goal

pub returns-in_err-get : goal.returns-in_err-get
returns-in_err-get c = rw c.from_residual.ensures (not_three (fields_of c.args.row.now) 0 (lit< tt) (sym c.in_err-get.ensures.value))

pub returns-in_err-get-2 : goal.returns-in_err-get-2
returns-in_err-get-2 c = rw c.from_residual-in_err-get-2.ensures (not_three (fields_of c.args.row.now) 1 (lit< tt) (sym c.in_err-get-2.ensures.value))

pub returns-in_err-get-3 : goal.returns-in_err-get-3
returns-in_err-get-3 c = rw c.from_residual-in_err-get-3.ensures (not_three (fields_of c.args.row.now) 2 (lit< tt) (sym c.in_err-get-3.ensures.value))

pub returns : goal.returns
returns c = all_three (fields_of c.args.row.now) _ _ _ (sym c.len.ensures ∙ c.if-len-ne3.false) (sym c.in_ok-get.ensures.value) (sym c.in_ok-get-2.ensures.value) (sym c.in_ok-get-3.ensures.value)
