use Rattle.command_csv.proofs.Forms.{no_day, no_position, no_workers, position_possible, took_day, took_position}
use Rattle.command_csv.proofs.fields.LineFields.valuation.Goals as goal

pub returns-in_err-on-clause-none : goal.returns-in_err-on-clause-none
returns-in_err-on-clause-none c = rw c.from_residual.ensures (no_day position_possible c.in_err-on.ensures.none)

pub returns-in_err-at-clause-none : goal.returns-in_err-at-clause-none
returns-in_err-at-clause-none c = rw c.from_residual-in_err-at.ensures (took_day c.in_ok-on.ensures.some (no_position c.in_err-at.ensures.none))

pub returns-in_err-workers-clause-none : goal.returns-in_err-workers-clause-none
returns-in_err-workers-clause-none c = rw c.from_residual-in_err-workers.ensures (took_day c.in_ok-on.ensures.some (took_position c.in_ok-at.at c.in_ok-at.ensures.some (no_workers c.in_err-workers.ensures.none)))
