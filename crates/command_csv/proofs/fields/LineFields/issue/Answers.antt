use Rattle.command_csv.specs.inside.Forms.{Ends}
use Rattle.command_csv.proofs.Forms.{amount_possible, end_possible, no_age, no_amount, no_day, no_id, no_plan, no_years, plan_possible, took_age, took_amount, took_day, took_id, took_plan, took_years}
use Rattle.command_csv.proofs.fields.LineFields.issue.Goals as goal

pub returns-in_err-id-clause-none : goal.returns-in_err-id-clause-none
returns-in_err-id-clause-none c = rw c.from_residual.ensures (no_id plan_possible c.in_err-id.ensures.none)

pub returns-in_err-day-clause-none : goal.returns-in_err-day-clause-none
returns-in_err-day-clause-none c = rw c.from_residual-in_err-day.ensures (took_id c.in_ok-id.ensures.some (no_day plan_possible c.in_err-day.ensures.none))

pub returns-in_err-plan-clause-none : goal.returns-in_err-plan-clause-none
returns-in_err-plan-clause-none c = rw c.from_residual-in_err-plan.ensures (took_id c.in_ok-id.ensures.some (took_day c.in_ok-day.ensures.some (no_plan c.in_err-plan.ensures.none)))

pub returns-in_err-age-clause-none : goal.returns-in_err-age-clause-none
returns-in_err-age-clause-none c = rw c.from_residual-in_err-age.ensures (took_id c.in_ok-id.ensures.some (took_day c.in_ok-day.ensures.some (took_plan c.in_ok-plan.plan c.in_ok-plan.ensures.some (no_age c.in_ok-plan.plan c.in_err-age.ensures.none))))

pub returns-in_err-years-clause-none : goal.returns-in_err-years-clause-none
returns-in_err-years-clause-none c = rw c.from_residual-in_err-years.ensures (took_id c.in_ok-id.ensures.some (took_day c.in_ok-day.ensures.some (took_plan c.in_ok-plan.plan c.in_ok-plan.ensures.some (took_age c.in_ok-plan.plan c.in_ok-age.ensures.some (no_years c.in_ok-plan.plan c.in_ok-age.age c.in_ok-age.ensures.some.fits c.in_err-years.ensures.none)))))

pub returns-in_err-amount-clause-none : goal.returns-in_err-amount-clause-none
returns-in_err-amount-clause-none c = rw c.from_residual-in_err-amount.ensures (took_id c.in_ok-id.ensures.some (took_day c.in_ok-day.ensures.some (took_plan c.in_ok-plan.plan c.in_ok-plan.ensures.some (took_age c.in_ok-plan.plan c.in_ok-age.ensures.some (took_years c.in_ok-plan.plan c.in_ok-age.age c.in_ok-years.years c.in_ok-years.ensures.some (no_amount (amount_possible Ends end_possible) c.in_err-amount.ensures.none))))))

pub returns-in_err-premium-clause-none : goal.returns-in_err-premium-clause-none
returns-in_err-premium-clause-none c = rw c.from_residual-in_err-premium.ensures (took_id c.in_ok-id.ensures.some (took_day c.in_ok-day.ensures.some (took_plan c.in_ok-plan.plan c.in_ok-plan.ensures.some (took_age c.in_ok-plan.plan c.in_ok-age.ensures.some (took_years c.in_ok-plan.plan c.in_ok-age.age c.in_ok-years.years c.in_ok-years.ensures.some (took_amount c.in_ok-amount.ensures.some (no_amount end_possible c.in_err-premium.ensures.none)))))))
