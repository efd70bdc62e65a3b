-- The two lanes are run from their words on: the files make the basis, and the program obeyed.
use Rattle.life_app.proofs.Names.{◌≡◌, ◌<◌, ◌⊎◌, ◌++◌, ℕ, get_or, ap, List, [], ◌∷◌, refl, inl, inr, lit≤, lit<, arith, ints, codes, pos, Option, Some, None, Ok, All-from_recursion, day_number, days_before_year, days_of_months, BadBasis, BadJournal, BadScript, DiskFault, NoMemory, ReadFault, WroteLine, EndsNoBasis, EndsNoOffice, EndsUnread, Does, Ending, EndsRead, EndsRun, IsDueEnding, Obeys, Run, filing_between, status_of, CalledDisk, called, two_auditors}
use Rattle.std.specs.Prelude.{if◌then◌else◌}
use Rattle.std.specs.Str.{bytes_eq}
use Rattle.csv.proofs.OnLiterals.{csv_on_literals}
unfoldable use Rattle.csv.specs.Reading.{Reached}
use Rattle.life_dates.specs.Calendar.{IsDay, ymd}
use Rattle.life_dates.specs.DayText.{IsDayText}
use Rattle.outside_io.specs.Shelves.{Agrees, Files}
use Rattle.present_value.specs.Worked.{five_ages}
use Rattle.basis_shelf.proofs.Names.{Aggregate, SpellsAny}
use Rattle.xtbml_subset.proofs.WorkedSelectTables.{any_judged, select_on_literals}
use Rattle.xtbml_subset.proofs.WorkedTables.{a_half, a_tenth, one}
use Rattle.xtbml_subset.proofs.Names.{IsRate}
use Rattle.basis_book.proofs.WorkedRows.{first_in, first_text, four_percent, no_points, q_name}
use Rattle.basis_book.specs.File.{IsBasisFile}
use Rattle.basis_book.specs.Name.{IsName, IsNameByte}
use Rattle.basis_book.specs.declared.row.BasisRow.{BasisRow}
use Rattle.basis_shelf.specs.Bases.{IsBasis}
use Rattle.basis_shelf.specs.Worked.{certain_death}
use Rattle.life_app.proofs.BooksSteps.{second_between}
use Rattle.life_app.proofs.ProgramSteps.{due}
use Rattle.life_app.proofs.WorkedRun.Due.{none_failed}
use Rattle.life_app.proofs.WorkedRun.Lanes.{legal_lanes, promised_lanes}
use Rattle.life_app.proofs.WorkedRun.Promise.{asks_run}
use Rattle.life_app.specs.WorkedRun.Lanes.{fault_disk, lanes_disk, lanes_script, lanes_text, output_by, typed_lanes}
use Rattle.life_app.specs.WorkedRun.LanesGiven.{AnsweredLanes, DueLanes, GivenLanes, ObeyedLanes, five_ages_text, lanes_found, lanes_input, lanes_rows, lanes_shelf}
use Rattle.life_app.specs.WorkedRun.Told.{two_bases}

-- ---- the two tables

a_fifth : IsRate (codes "0.2") 200000000
a_fifth = (
  record { whole = codes "0"; fraction = codes "2"; raised = 0; lowered = 0 },
  record {
    plain = codes "0.2";
    exponent = [];
    joined = refl;
    plain_is = inr refl;
    exponent_is = (refl, refl);
    whole_digits = (lit< tt, tt);
    fraction_digits = (lit< tt, tt);
    some_digit = lit≤ tt;
  },
  refl,
  lit≤ tt,
)

a_quarter : IsRate (codes "0.25") 250000000
a_quarter = (
  record { whole = codes "0"; fraction = codes "25"; raised = 0; lowered = 0 },
  record {
    plain = codes "0.25";
    exponent = [];
    joined = refl;
    plain_is = inr refl;
    exponent_is = (refl, refl);
    whole_digits = (lit< tt, tt);
    fraction_digits = (lit< tt, (lit< tt, tt));
    some_digit = lit≤ tt;
  },
  refl,
  lit≤ tt,
)

-- the rates after those of the ages 0, 1, 2 and 3
abbrev after_0 : List ℕ
after_0 = 200000000 ∷ 250000000 ∷ 500000000 ∷ 1000000000 ∷ []

abbrev after_1 : List ℕ
after_1 = 250000000 ∷ 500000000 ∷ 1000000000 ∷ []

abbrev after_2 : List ℕ
after_2 = 500000000 ∷ 1000000000 ∷ []

abbrev after_3 : List ℕ
after_3 = 1000000000 ∷ []

five_spelled : SpellsAny five_ages_text (Aggregate five_ages)
unfolding select_on_literals
five_spelled = any_judged _ _ refl (
  Ok five_ages,
  (
    Ok tt,
    refl,
    (
      Ok five_ages.rates,
      (
        Ok (Some 1, 100000000),
        (Some 100000000, a_tenth, refl),
        (Ok after_0, (Ok (Some 2, 200000000), (Some 200000000, a_fifth, refl), (Ok after_1, (Ok (Some 3, 250000000), (Some 250000000, a_quarter, refl), (Ok after_2, (Ok (Some 4, 500000000), (Some 500000000, a_half, refl), (Ok after_3, (Ok (Some 5, 1000000000), (Some 1000000000, one, refl), (Ok [], refl, refl)), refl)), refl)), refl)), refl),
      ),
      refl,
    ),
  ),
  refl,
)

death_spelled : SpellsAny certain_death (Aggregate (record { first_age = 60; rates = 1000000000 ∷ [] }))
unfolding select_on_literals
death_spelled = any_judged _ _ refl (
  Ok (record { first_age = 60; rates = 1000000000 ∷ [] }),
  (Ok tt, refl, (Ok (1000000000 ∷ []), (Ok (Some 61, 1000000000), (Some 1000000000, one, refl), (Ok [], refl, refl)), refl)),
  refl,
)

-- ---- the basis file

next_text : IsDayText (codes "2020-01-02") (pos 18263)
unfolding day_number days_before_year days_of_months
next_text = record {
  date = ymd 2020 1 2;
  is_date = record { year_low = lit≤ tt; year_high = lit≤ tt; month_low = lit≤ tt; month_high = lit≤ tt; day_low = lit≤ tt; day_high = lit≤ tt };
  is_text = refl;
  is_number = refl;
}

next_in : IsDay (pos 18263)
next_in = (omega (arith, ints), omega (arith, ints))

five_name : IsName (codes "five.xml")
five_name = record {
  some = lit≤ tt;
  short = lit≤ tt;
  first = inr (lit≤ tt, lit≤ tt);
  each = All-from_recursion IsNameByte (codes "five.xml") (inl (inr (lit≤ tt, lit≤ tt)), (inl (inr (lit≤ tt, lit≤ tt)), (inl (inr (lit≤ tt, lit≤ tt)), (inl (inr (lit≤ tt, lit≤ tt)), (inr (inl refl), (inl (inr (lit≤ tt, lit≤ tt)), (inl (inr (lit≤ tt, lit≤ tt)), (inl (inr (lit≤ tt, lit≤ tt)), tt))))))));
}

rows : List BasisRow
rows = (record { from_day = pos 10957; table = codes "five.xml"; bp = 0 }) ∷ (record { from_day = pos 18263; table = codes "q.xml"; bp = 400 }) ∷ []

two_rows : IsBasisFile lanes_rows rows
unfolding rows csv_on_literals Reached
two_rows = (
  (codes "2000-01-01" ∷ codes "five.xml" ∷ codes "0" ∷ []) ∷ (codes "2020-01-02" ∷ codes "q.xml" ∷ codes "400" ∷ []) ∷ [],
  (_, _, (_, refl, refl, (_, refl, refl, (refl, refl))), refl),
  lit≤ tt,
  record {
    each = ((first_text, first_in, five_name, refl, no_points), ((next_text, next_in, q_name, refl, four_percent), tt));
    rise = (omega (arith, ints), tt);
  },
)

-- ---- whatever files agree

pub lanes_bases : (files : Files) → Agrees lanes_found files → IsBasis files (codes "basis.csv") two_bases
unfolding rows
lanes_bases files agree = record {
  rows = rows;
  file = (lanes_rows, (agree.0.0.1, lit≤ tt), two_rows);
  each = (
    (refl, (five_ages_text, (agree.0.1, lit≤ tt), five_spelled), refl),
    ((refl, (certain_death, (agree.1, lit≤ tt), death_spelled), refl), tt),
  );
}

-- the files as the shelf reported of them
pub lanes_files : Files
lanes_files name =
    if bytes_eq name (codes "basis.csv") then Some lanes_rows
    else (if bytes_eq name (codes "five.xml") then Some five_ages_text else (if bytes_eq name (codes "q.xml") then Some certain_death else None))

pub agreed : Agrees lanes_found lanes_files
unfolding lanes_files
agreed = (((tt, refl), refl), refl)

pub given_lanes : GivenLanes
given_lanes = (asks_run, inr (refl, tt), legal_lanes.0, inr (refl, (lanes_files, agreed, lanes_bases lanes_files agreed)))

-- ---- the run

read : EndsRead called lanes_disk fault_disk (codes "basis.csv") two_auditors lanes_input (output_by fault_disk lanes_text) lanes_shelf ⊥ DiskFault
read = record {
  bytes = lanes_script;
  gave = record { given = refl; ended = tt; left = tt; end = tt };
  lanes = typed_lanes;
  read = (lit≤ tt, legal_lanes.0);
  ends = inr (refl, inl (record { basis = two_bases; is = lanes_bases; ends = inl promised_lanes.1 }));
}

run_ended : EndsRun called lanes_disk fault_disk (codes "basis.csv") two_auditors lanes_input (output_by fault_disk lanes_text) lanes_shelf ⊥ DiskFault
run_ended = inl read

did : (second : Option CalledDisk)
    → Does called called lanes_disk fault_disk second second (codes "run" ∷ []) two_auditors lanes_input (output_by fault_disk lanes_text) lanes_shelf ⊥ ⊥ DiskFault
did second = inl (Run (codes "basis.csv"), asks_run, (refl, run_ended))

pub obeyed_beside : (second : Option CalledDisk)
    → Obeys called called lanes_disk fault_disk second second (codes "run" ∷ []) two_auditors lanes_input (output_by fault_disk lanes_text) lanes_shelf ⊥ ⊥ 8
obeyed_beside second = record { ending = DiskFault; exits = refl; does = did second }

pub obeyed_lanes : ObeyedLanes
obeyed_lanes = (read, run_ended, obeyed_beside)

-- whatever the second disk, which stays
pub due_beside_lanes : (second : Option CalledDisk) (ending : Ending)
    → IsDueEnding (codes "run" ∷ []) lanes_input (output_by fault_disk lanes_text) lanes_shelf (filing_between called lanes_disk fault_disk) (second_between called second second) ending
    → (status_of DiskFault ≡ status_of ending) ⊎ (status_of DiskFault ≡ 9)
due_beside_lanes second ending is = due called called lanes_disk fault_disk second second two_auditors (codes "run" ∷ []) lanes_input (output_by fault_disk lanes_text) lanes_shelf ⊥ ⊥ DiskFault
    (did second) (λ rose. absurd (omega (arith, rose))) (λ rose. absurd (omega (arith, rose))) ending is

pub due_lanes : DueLanes
due_lanes = ((let rose : 0 < 1 = lit< tt in rose, none_failed), due_beside_lanes None)

-- ---- a run that answered no line writes one that this output hasn't

wrote_none : WroteLine (output_by fault_disk lanes_text) (codes "diskfault") → ⊥
wrote_none (inl all) =
    let same : lanes_text ≡ codes "diskfault" ++ 10 ∷ [] = all in
    let first : 49 ≡ 100 = ap (λ (text : List ℕ). get_or text 0 0) same in
    absurd (omega (arith, first))
wrote_none (inr part) = none_failed part.0

unread_fails : (ending : Ending) → EndsUnread lanes_input (output_by fault_disk lanes_text) ending → 8 ≡ status_of ending → ⊥
unread_fails BadScript says same = (let no : 8 ≡ 3 = same in absurd (omega (arith, no)))
unread_fails ReadFault says same = (let no : 8 ≡ 6 = same in absurd (omega (arith, no)))
unread_fails (NoMemory lack) says same = (let no : 8 ≡ 9 = same in absurd (omega (arith, no)))
unread_fails _ says same = says

unbased_fails : (ending : Ending) → EndsNoBasis (codes "basis.csv") lanes_shelf (output_by fault_disk lanes_text) ending → 8 ≡ status_of ending → ⊥
unbased_fails BadBasis says same = (let no : 8 ≡ 4 = same in absurd (omega (arith, no)))
unbased_fails ReadFault says same = (let no : 8 ≡ 6 = same in absurd (omega (arith, no)))
unbased_fails (NoMemory lack) says same = (let no : 8 ≡ 9 = same in absurd (omega (arith, no)))
unbased_fails _ says same = says

unopened_fails : (ending : Ending) → EndsNoOffice called lanes_disk fault_disk (output_by fault_disk lanes_text) ending → 8 ≡ status_of ending → ⊥
unopened_fails BadJournal says same = (let no : 8 ≡ 5 = same in absurd (omega (arith, no)))
unopened_fails DiskFault says same = wrote_none says.0
unopened_fails (NoMemory lack) says same = (let no : 8 ≡ 9 = same in absurd (omega (arith, no)))
unopened_fails _ says same = says

pub answered_lanes : AnsweredLanes
answered_lanes unrun = elim unrun.says [
  | inl says ↦ unread_fails unrun.ending says unrun.exits
  | inr (inl says) ↦ unbased_fails unrun.ending says unrun.exits
  | inr (inr says) ↦ unopened_fails unrun.ending says unrun.exits
]
