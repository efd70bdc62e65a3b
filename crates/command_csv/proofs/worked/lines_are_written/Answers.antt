use Rattle.command_csv.proofs.Names.{refl, arith, lit≤, digits, ints, csv_on_literals, date_of, month_of, days_before_year, days_of_months, day_text}
use Rattle.command_csv.proofs.WorkedScripts.{says_one}
use Rattle.command_csv.proofs.worked.lines_are_written.Goals as goal

pub returns-clause-issue : goal.returns-clause-issue
unfolding csv_on_literals digits day_text date_of month_of days_before_year days_of_months
returns-clause-issue c = says_one _ _ refl record { id_in = (lit≤ tt, lit≤ tt); day_in = (omega (arith, ints), omega (arith, ints)); age_in = lit≤ tt; years_in = (lit≤ tt, lit≤ tt); amount_in = (lit≤ tt, lit≤ tt); premium_in = (lit≤ tt, lit≤ tt) }

pub returns-clause-premium : goal.returns-clause-premium
unfolding csv_on_literals digits day_text date_of month_of days_before_year days_of_months
returns-clause-premium c = says_one _ _ refl ((lit≤ tt, lit≤ tt), (omega (arith, ints), omega (arith, ints)), (lit≤ tt, lit≤ tt))

pub returns-clause-alter : goal.returns-clause-alter
unfolding csv_on_literals digits day_text date_of month_of days_before_year days_of_months
returns-clause-alter c = says_one _ _ refl ((lit≤ tt, lit≤ tt), (omega (arith, ints), omega (arith, ints)), (lit≤ tt, lit≤ tt), (lit≤ tt, lit≤ tt))

pub returns-clause-lapse : goal.returns-clause-lapse
unfolding csv_on_literals digits day_text date_of month_of days_before_year days_of_months
returns-clause-lapse c = says_one _ _ refl ((lit≤ tt, lit≤ tt), (omega (arith, ints), omega (arith, ints)))

pub returns-clause-reinstate : goal.returns-clause-reinstate
unfolding csv_on_literals digits day_text date_of month_of days_before_year days_of_months
returns-clause-reinstate c = says_one _ _ refl ((lit≤ tt, lit≤ tt), (omega (arith, ints), omega (arith, ints)), (lit≤ tt, lit≤ tt))

pub returns-clause-claim : goal.returns-clause-claim
unfolding csv_on_literals digits day_text date_of month_of days_before_year days_of_months
returns-clause-claim c = says_one _ _ refl ((lit≤ tt, lit≤ tt), (omega (arith, ints), omega (arith, ints)))

pub returns-clause-settle : goal.returns-clause-settle
unfolding csv_on_literals digits day_text date_of month_of days_before_year days_of_months
returns-clause-settle c = says_one _ _ refl ((lit≤ tt, lit≤ tt), (omega (arith, ints), omega (arith, ints)), (lit≤ tt, lit≤ tt))

pub returns-clause-mature : goal.returns-clause-mature
unfolding csv_on_literals digits day_text date_of month_of days_before_year days_of_months
returns-clause-mature c = says_one _ _ refl ((lit≤ tt, lit≤ tt), (omega (arith, ints), omega (arith, ints)))

pub returns-clause-value : goal.returns-clause-value
unfolding csv_on_literals digits day_text date_of month_of days_before_year days_of_months
returns-clause-value c = says_one _ _ refl ((omega (arith, ints), omega (arith, ints)), tt, (lit≤ tt, lit≤ tt))

pub returns-clause-value_at : goal.returns-clause-value_at
unfolding csv_on_literals digits day_text date_of month_of days_before_year days_of_months
returns-clause-value_at c = says_one _ _ refl ((omega (arith, ints), omega (arith, ints)), lit≤ tt, (lit≤ tt, lit≤ tt))

pub returns-clause-trim : goal.returns-clause-trim
unfolding csv_on_literals digits day_text date_of month_of days_before_year days_of_months
returns-clause-trim c = says_one _ _ refl tt

pub returns-clause-paid_up : goal.returns-clause-paid_up
unfolding csv_on_literals digits day_text date_of month_of days_before_year days_of_months
returns-clause-paid_up c = says_one _ _ refl ((lit≤ tt, lit≤ tt), (omega (arith, ints), omega (arith, ints)), (lit≤ tt, lit≤ tt))

pub returns-clause-upgrade : goal.returns-clause-upgrade
unfolding csv_on_literals digits day_text date_of month_of days_before_year days_of_months
returns-clause-upgrade c = says_one _ _ refl tt
