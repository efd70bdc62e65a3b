use Rattle.command_csv.specs.inside.Forms.{Ends}
use Rattle.command_csv.proofs.Forms.{amount_possible, end_possible, no_amount, no_day, no_id, took_day, took_id}
use Rattle.command_csv.proofs.fields.LineFields.premium.Goals as goal

pub returns-in_err-id-clause-none : goal.returns-in_err-id-clause-none
returns-in_err-id-clause-none c = rw c.from_residual.ensures (no_id (amount_possible Ends end_possible) c.in_err-id.ensures.none)

pub returns-in_err-day-clause-none : goal.returns-in_err-day-clause-none
returns-in_err-day-clause-none c = rw c.from_residual-in_err-day.ensures (took_id c.in_ok-id.ensures.some (no_day (amount_possible Ends end_possible) c.in_err-day.ensures.none))

pub returns-in_err-amount-clause-none : goal.returns-in_err-amount-clause-none
returns-in_err-amount-clause-none c = rw c.from_residual-in_err-amount.ensures (took_id c.in_ok-id.ensures.some (took_day c.in_ok-day.ensures.some (no_amount end_possible c.in_err-amount.ensures.none)))
