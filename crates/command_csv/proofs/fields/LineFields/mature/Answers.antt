use Rattle.command_csv.proofs.Forms.{end_possible, no_day, no_id, took_id}
use Rattle.command_csv.proofs.fields.LineFields.mature.Goals as goal

pub returns-in_err-id-clause-none : goal.returns-in_err-id-clause-none
returns-in_err-id-clause-none c = rw c.from_residual.ensures (no_id end_possible c.in_err-id.ensures.none)

pub returns-in_err-day-clause-none : goal.returns-in_err-day-clause-none
returns-in_err-day-clause-none c = rw c.from_residual-in_err-day.ensures (took_id c.in_ok-id.ensures.some (no_day end_possible c.in_err-day.ensures.none))
