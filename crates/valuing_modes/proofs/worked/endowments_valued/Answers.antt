use Rattle.valuing_modes.proofs.Names.{[], ◌∷◌, refl, lit≤, digits, day_number, date_of, month_of, days_before_year, days_of_months, day_text, row_text, total_text, heading_text}
use Rattle.life_dates.specs.Anniversary.{anniversary_of}
use Rattle.policy_types.specs.declared.policy.Status.TheVariants.{InForce, PaidUp}
use Rattle.plan_benefits.specs.declared.fault.NotValued.TheVariants.{BelowTable, NoBasis}
use Rattle.policy_value.specs.declared.worth.Worth.TheVariants.{Bounds, Word}
use Rattle.valuing_modes.proofs.WorkedValuation.{first_row, second_row, third_row, fourth_row, fifth_row}
use Rattle.valuing_modes.proofs.worked.endowments_valued.Goals as goal

pub returns : goal.returns
unfolding row_text heading_text total_text day_text anniversary_of day_number date_of month_of days_before_year days_of_months digits
returns c = record {
  reached = lit≤ tt;
  rows = (record { id = 7001; status = InForce; t = 1; worth = Bounds 12722 12723 })
      ∷ (record { id = 7002; status = InForce; t = 0; worth = Word BelowTable })
      ∷ (record { id = 7003; status = InForce; t = 0; worth = Word NoBasis })
      ∷ (record { id = 7004; status = InForce; t = 0; worth = Bounds 0 0 })
      ∷ (record { id = 7005; status = PaidUp; t = 1; worth = Bounds 30000 30000 }) ∷ [];
  each = (first_row, (second_row, (third_row, (fourth_row, (fifth_row, tt)))));
  wrote = refl;
}
