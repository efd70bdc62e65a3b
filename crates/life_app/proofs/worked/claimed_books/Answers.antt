use Rattle.life_app.proofs.Names.{digits, refl, anniversary_of, day_number, date_of, month_of, days_before_year, days_of_months, day_text, balance_text, entry_text, policy_text}
use Rattle.life_app.proofs.worked.claimed_books.Goals as goal

pub returns : goal.returns
unfolding digits anniversary_of day_number date_of month_of days_before_year days_of_months day_text balance_text entry_text policy_text
returns c = refl
