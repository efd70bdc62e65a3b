use Rattle.command_csv.proofs.Names.{false≢true, refl, [], ◌∷◌, ◌++◌, codes, pos, arith, lit≤, digits, ints, csv_on_literals, date_of, month_of, days_before_year, days_of_months, day_text, AllZip, decimal, replicate, Lapse, Now, Line, Post, Value, Trim, by_first, row_fields, IsLineRow, IsScriptLine, most_valuations}
use Rattle.command_csv.proofs.Lines.{entry_of, surplus}
use Rattle.command_csv.proofs.WorkedScripts.{row_is, row_of, rows_again, rows_both, bad_clerk, no_day, no_workers, no_room}
use Rattle.command_csv.proofs.worked.faults_are_placed.Goals as goal

abbrev valued : Line
valued = Value (pos 18262) Now 1

-- half of the valuations by clerk 1, and half by clerk 8
sixteen_rows : AllZip IsLineRow (replicate 8 (row_fields (entry_of 1 valued)) ++ replicate 8 (row_fields (entry_of 8 valued))) (replicate 8 (entry_of 1 valued) ++ replicate 8 (entry_of 8 valued))
sixteen_rows =
    let right : IsScriptLine valued = ((omega (arith, ints), omega (arith, ints)), tt, (lit≤ tt, lit≤ tt)) in
    let first = rows_again 8 (row_fields (entry_of 1 valued)) (entry_of 1 valued) (row_of 1 valued (lit≤ tt, lit≤ tt) right) in
    let last = rows_again 8 (row_fields (entry_of 8 valued)) (entry_of 8 valued) (row_of 8 valued (lit≤ tt, lit≤ tt) right) in
    rows_both (replicate 8 (row_fields (entry_of 1 valued))) (replicate 8 (row_fields (entry_of 8 valued))) (replicate 8 (entry_of 1 valued)) (replicate 8 (entry_of 8 valued)) first last

pub returns-clause-clerk : goal.returns-clause-clerk
unfolding csv_on_literals digits day_text date_of month_of days_before_year days_of_months
returns-clause-clerk c =
    let rest = codes "lapse" ∷ codes "1" ∷ codes "2020-01-01" ∷ [] in
    record { before = []; faulty = decimal 9 ∷ rest; after = []; rows = refl; number = refl; entries = []; right = record { each = tt; few = lit≤ tt }; bad = bad_clerk 0 9 rest (omega arith) (λ h. omega (arith, h)) }

pub returns-clause-clerk_0 : goal.returns-clause-clerk_0
unfolding csv_on_literals digits
returns-clause-clerk_0 c = record {
  before = row_fields (entry_of 8 Trim) ∷ [];
  faulty = decimal 0 ∷ codes "trim" ∷ [];
  after = [];
  rows = refl;
  number = refl;
  entries = entry_of 8 Trim ∷ [];
  right = record { each = (row_of 8 Trim (lit≤ tt, lit≤ tt) tt, tt); few = lit≤ tt };
  bad = bad_clerk 0 0 (codes "trim" ∷ []) (omega arith) (λ h. omega (arith, h));
}

pub returns-clause-clerk_first : goal.returns-clause-clerk_first
unfolding csv_on_literals digits
returns-clause-clerk_first c =
    let rest = codes "lapsed" ∷ [] in
    record { before = []; faulty = decimal 9 ∷ rest; after = []; rows = refl; number = refl; entries = []; right = record { each = tt; few = lit≤ tt }; bad = bad_clerk 0 9 rest (omega arith) (λ h. omega (arith, h)) }

pub returns-clause-missing : goal.returns-clause-missing
unfolding csv_on_literals digits day_text date_of month_of days_before_year days_of_months
returns-clause-missing c =
    let first = Post (Lapse 1 (pos 18262)) in
    record {
      before = row_fields (by_first first) ∷ [];
      faulty = decimal 1 ∷ codes "lapse" ∷ decimal 1 ∷ [];
      after = [];
      rows = refl;
      number = refl;
      entries = by_first first ∷ [];
      right = record { each = (row_is first ((lit≤ tt, lit≤ tt), (omega (arith, ints), omega (arith, ints))), tt); few = lit≤ tt };
      bad = no_day 1 (lit≤ tt, lit≤ tt);
    }

pub returns-clause-surplus : goal.returns-clause-surplus
unfolding csv_on_literals digits day_text date_of month_of days_before_year days_of_months
returns-clause-surplus c =
    let first = Post (Lapse 1 (pos 18262)) in
    record {
      before = [];
      faulty = decimal 1 ∷ codes "lapse" ∷ decimal 1 ∷ day_text (pos 18262) ∷ [] ∷ [];
      after = [];
      rows = refl;
      number = refl;
      entries = [];
      right = record { each = tt; few = lit≤ tt };
      bad = surplus 0 (by_first first) (row_is first ((lit≤ tt, lit≤ tt), (omega (arith, ints), omega (arith, ints)))).0 (λ no. absurd (false≢true no)) refl (λ e. cc) refl;
    }

pub returns-clause-trim : goal.returns-clause-trim
unfolding csv_on_literals digits
returns-clause-trim c = record {
  before = [];
  faulty = decimal 1 ∷ codes "trim" ∷ [] ∷ [];
  after = [];
  rows = refl;
  number = refl;
  entries = [];
  right = record { each = tt; few = lit≤ tt };
  bad = surplus 0 (by_first Trim) (row_is Trim tt).0 (λ no. absurd (false≢true no)) refl (λ e. cc) refl;
}

pub returns-clause-workers : goal.returns-clause-workers
unfolding csv_on_literals digits day_text date_of month_of days_before_year days_of_months
returns-clause-workers c = record {
  before = [];
  faulty = decimal 1 ∷ codes "value" ∷ day_text (pos 18628) ∷ codes "now" ∷ [];
  after = [];
  rows = refl;
  number = refl;
  entries = [];
  right = record { each = tt; few = lit≤ tt };
  bad = no_workers;
}

pub returns-clause-valuations : goal.returns-clause-valuations
unfolding csv_on_literals digits day_text date_of month_of days_before_year days_of_months
returns-clause-valuations c =
    let rest = codes "value" ∷ day_text (pos 18262) ∷ codes "now" ∷ codes "1" ∷ [] in
    record {
      before = replicate 8 (decimal 1 ∷ rest) ++ replicate 8 (decimal 8 ∷ rest);
      faulty = decimal 5 ∷ rest;
      after = [];
      rows = refl;
      number = refl;
      entries = replicate 8 (entry_of 1 valued) ++ replicate 8 (entry_of 8 valued);
      right = record { each = sixteen_rows; few = lit≤ tt };
      bad = no_room 5 (day_text (pos 18262) ∷ codes "now" ∷ codes "1" ∷ []) (lit≤ tt, lit≤ tt);
    }

pub returns-clause-valuations_of_none : goal.returns-clause-valuations_of_none
unfolding csv_on_literals digits day_text date_of month_of days_before_year days_of_months
returns-clause-valuations_of_none c =
    let rest = codes "value" ∷ day_text (pos 18262) ∷ codes "now" ∷ codes "1" ∷ [] in
    record {
      before = replicate 8 (decimal 1 ∷ rest) ++ replicate 8 (decimal 8 ∷ rest);
      faulty = decimal 9 ∷ rest;
      after = [];
      rows = refl;
      number = refl;
      entries = replicate 8 (entry_of 1 valued) ++ replicate 8 (entry_of 8 valued);
      right = record { each = sixteen_rows; few = lit≤ tt };
      bad = bad_clerk most_valuations 9 rest (omega arith) (λ h. omega (arith, h));
    }
