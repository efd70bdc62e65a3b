use Rattle.life_app.proofs.Names.{digits, refl, date_of, month_of, days_before_year, days_of_months, day_text}
use Rattle.life_app.proofs.worked.refusal_texts.Goals as goal

pub returns : goal.returns
unfolding digits day_text date_of month_of days_before_year days_of_months
returns c = (refl, refl, refl, refl, refl, refl, refl, refl, refl, refl, refl, refl, refl, refl, refl)
