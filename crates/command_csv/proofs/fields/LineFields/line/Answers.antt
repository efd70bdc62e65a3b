use Rattle.std.proofs.Common.{arith}
use Rattle.command_csv.proofs.Forms.{no_clerk, no_kind, took_clerk, took_kind}
use Rattle.command_csv.proofs.Lines.{next_row, one_more, stopped}
use Rattle.command_csv.proofs.fields.LineFields.line.Goals as goal

pub returns-clause-some : goal.returns-clause-some
returns-clause-some c = next_row c.in_ok-kind.kind c.in_ok-line.line c.in_ok-clerk.clerk c.in_ok-clerk.ensures.some c.in_ok-kind.ensures.some c.in_ok-line.ensures.some c.in_ok-end.ensures.some

pub returns-in_err-clerk-clause-none : goal.returns-in_err-clerk-clause-none
returns-in_err-clerk-clause-none c = rw c.from_residual.ensures (stopped c.requires.start (no_clerk c.in_err-clerk.ensures.none))

pub returns-in_err-kind-clause-none : goal.returns-in_err-kind-clause-none
returns-in_err-kind-clause-none c = rw c.from_residual-in_err-kind.ensures (stopped c.requires.start (took_clerk c.in_ok-clerk.ensures.some (no_kind c.in_err-kind.ensures.none)))

pub returns-in_err-line-clause-none : goal.returns-in_err-line-clause-none
returns-in_err-line-clause-none c =
    rw c.from_residual-in_err-line.ensures
    (stopped c.requires.start (took_clerk c.in_ok-clerk.ensures.some (took_kind c.in_ok-kind.kind c.in_ok-kind.ensures.some c.in_err-line.ensures.none)))

pub returns-in_err-end-clause-none : goal.returns-in_err-end-clause-none
returns-in_err-end-clause-none c =
    let held = c.in_ok-line.ensures.some in
    rw c.from_residual-in_err-end.ensures
    (one_more c.in_ok-kind.kind c.in_ok-line.line c.in_ok-clerk.clerk c.in_ok-clerk.ensures.some c.in_ok-kind.ensures.some held c.in_err-end.ensures.none
    (omega (arith, held.counted, c.in_err-end.ensures.counted)))
