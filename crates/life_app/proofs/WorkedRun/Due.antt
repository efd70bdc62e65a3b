-- Worked cases have what is due.
use Rattle.life_app.proofs.Names.{◌≡◌, ◌≤◌, ◌<◌, ◌+◌, ◌⊎◌, ℕ, replicate, List, [], ◌∷◌, refl, inl, inr, lit≤, arith, codes, Option, None, Some, ints, All-nil, All-from_recursion, Run, State, bare, Terminal, NotAJournal, IsShown, hand_issue, shown_opens_to_none, HasBasis, HasJournal, HasNoBasis, HasNoJournal, HasNoScript, HasScript, HasItsNeeds, IsDueEnding, Rose, Opens, Command, sym, subst, length, joined, digits, Now, Position, Value, pos, no_input, BadScript, status_of, Ending, Done, GivesMore, most_script_bytes, length-replicate, Without, CalledDisk, called, cut_disk, last_disk, given_script, output_of, premium_lanes, premium_script, premium_text, shelf_that_told, two_auditors, BasisByHand, DueByHand, DueOfTheRun, NeedsByHand, basisless_shelf, cut_filing, faulty_script, letters, letters_filing, stocked_shelf, value_lanes, value_script}
use Rattle.basis_shelf.specs.Worked.{BasisOfOneRow, FirstBadFiles, certain_death, one_row, shelf_with}
use Rattle.command_csv.specs.Worked.{NoClerk, ValueLine}
use Rattle.life_args.proofs.WorkedWords.{new_year}
use Rattle.script_run.specs.Worked.{input_that_gave}
use Rattle.basis_book.specs.Name.{IsName, IsNameByte}
use Rattle.life_app.specs.Needs.{JournalIs}
use Rattle.life_app.proofs.BooksSteps.{second_between}
use Rattle.life_app.proofs.ProgramSteps.{due}
use Rattle.life_app.proofs.WorkedRun.Promise.{asks_run, did, reads_premium}
use Rattle.life_app.proofs.WorkedRun.First.{honest_last}
use Rattle.life_app.proofs.WorkedRun.Row.{second_left}

pub none_failed : ¬ Rose 0 0
none_failed rose = let no : 1 ≤ 0 = rose in omega (arith, no)

script : HasScript given_script premium_lanes
script = record { bytes = premium_script; whole = inr (refl, tt); read = (lit≤ tt, reads_premium); held = none_failed }

journal : HasJournal cut_filing Without (hand_issue ∷ [])
journal = record { trusted = honest_last; so = second_left.opened honest_last; held = none_failed }

-- one more byte than a script may have
long_script : (n : ℕ) → most_script_bytes < n
    → (bytes : List ℕ) × GivesMore most_script_bytes [] bytes × IsDueEnding (codes "run" ∷ []) (input_that_gave bytes ⊥ 0) (output_of []) (shelf_that_told []) cut_filing Without BadScript
long_script n many =
    let bytes = replicate n 0 in
    let more : GivesMore most_script_bytes [] bytes =
    (bytes, refl, (let long = length-replicate {A = ℕ} n 0 in omega (arith, long, many))) in
    (bytes, more, (codes "basis.csv", asks_run, inl more, none_failed))

module _ (clerk : NoClerk) (line : ValueLine) (basis : BasisOfOneRow) (bad : FirstBadFiles) (shown : IsShown letters NotAJournal) where
  values : HasScript value_script value_lanes
  values = record { bytes = codes "1,value,2020-01-01,now,64\n"; whole = inr (refl, tt); read = (lit≤ tt, line); held = none_failed }

  no_script : HasNoScript faulty_script
  no_script = (inr (codes "9,lapse,1,2020-01-01", inr (refl, tt), inr (1, (1, clerk))), none_failed)

  has_basis : HasBasis stocked_shelf (codes "b.csv")
  has_basis = record { files = shelf_with one_row (Some certain_death); agree = ((tt, refl), refl); so = (_, basis); held = none_failed }

  no_basis : HasNoBasis basisless_shelf (codes "a.csv")
  no_basis = record { files = shelf_with one_row None; agree = (tt, refl); so = (_, bad.0); held = none_failed }

  no_journal : HasNoJournal letters_filing Without
  no_journal = record { trusted = ((((tt, tt), refl), refl), refl); so = shown_opens_to_none letters NotAJournal tt shown; held = none_failed }

  pub needs_by_hand : NeedsByHand
  needs_by_hand = ((premium_lanes, (lit≤ tt, reads_premium)), inr (1, (1, clerk)), script, values, long_script (most_script_bytes + 1) (omega arith), has_basis, no_basis, journal, no_journal)

  pub basis_by_hand : BasisByHand
  basis_by_hand = (
    _,
    inr (refl, (shelf_with one_row (Some certain_death), ((tt, refl), refl), basis)),
    record { before = []; after = []; split = refl; place = refl; begun = omega (arith, ints); later = All-nil _ },
  )

  run_needs : HasItsNeeds (Run (codes "basis.csv")) given_script (shelf_that_told []) Without
  run_needs = record { lanes = premium_lanes; script = λ name same. script; basis = λ name need. (let asks = need.1 in cc); disks = λ same. absurd cc }

  state_needs : HasItsNeeds (State None) no_input (shelf_that_told []) Without
  state_needs = record { lanes = []; script = λ name same. absurd cc; basis = λ name need. absurd need; disks = λ same. absurd cc }

  value_needs : HasItsNeeds (Value (pos 18628) (Position 1) 1 (codes "b.csv") Terminal) no_input stocked_shelf Without
  value_needs = record {
    lanes = [];
    script = λ name same. absurd cc;
    basis = λ name need. subst (λ (n : List ℕ). HasBasis stocked_shelf n) (sym need) has_basis;
    disks = λ same. absurd cc;
  }

  some_commands : JournalIs cut_filing Without (λ file. (commands : List Command) × Opens file commands)
  some_commands = record { trusted = honest_last; so = (hand_issue ∷ [], second_left.opened honest_last); held = none_failed }

  enough_commands : JournalIs cut_filing Without (λ file. (commands : List Command) × Opens file commands × (1 ≤ length commands))
  enough_commands = record { trusted = honest_last; so = (hand_issue ∷ [], second_left.opened honest_last, lit≤ tt); held = none_failed }

  a_name : IsName (codes "a.csv")
  a_name = record {
    some = lit≤ tt;
    short = lit≤ tt;
    first = inr (lit≤ tt, lit≤ tt);
    each = All-from_recursion IsNameByte (codes "a.csv") (inl (inr (lit≤ tt, lit≤ tt)), (inr (inl refl), (inl (inr (lit≤ tt, lit≤ tt)), (inl (inr (lit≤ tt, lit≤ tt)), (inl (inr (lit≤ tt, lit≤ tt)), tt)))));
  }

  b_name : IsName (codes "b.csv")
  b_name = record {
    some = lit≤ tt;
    short = lit≤ tt;
    first = inr (lit≤ tt, lit≤ tt);
    each = All-from_recursion IsNameByte (codes "b.csv") (inl (inr (lit≤ tt, lit≤ tt)), (inr (inl refl), (inl (inr (lit≤ tt, lit≤ tt)), (inl (inr (lit≤ tt, lit≤ tt)), (inl (inr (lit≤ tt, lit≤ tt)), tt)))));
  }

  pub due_by_hand : DueByHand
  unfolding digits
  due_by_hand = (
    run_needs,
    (Run (codes "basis.csv"), asks_run, run_needs, some_commands, none_failed),
    (State None, (refl, record { pieces = []; spells = refl; only = tt; id_is = refl }), state_needs, no_journal),
    (λ mode are. are),
    (codes "basis.csv", asks_run, no_script.0, no_script.1),
    (
      Run (codes "a.csv"),
      (refl, record { pieces = joined (codes "basis") (codes "a.csv") ∷ []; spells = refl; only = (inl refl, tt); alone = refl; basis_is = (a_name, refl) }),
      (codes "a.csv", (refl, (value_lanes, values, refl)), no_basis),
    ),
    (
      Value (pos 18628) Now 1 (codes "a.csv") Terminal,
      (refl, record { pieces = bare (codes "2021-01-01") ∷ joined (codes "basis") (codes "a.csv") ∷ []; spells = refl; only = (inr (inr (inl refl)), tt); day = codes "2021-01-01"; alone = refl; day_is = new_year; position_is = refl; workers_are = refl; basis_is = (a_name, refl); measure_is = refl }),
      (codes "a.csv", refl, no_basis),
    ),
    value_needs,
    (
      Value (pos 18628) (Position 1) 1 (codes "b.csv") Terminal,
      (refl, record { pieces = bare (codes "2021-01-01") ∷ joined (codes "at") (codes "1") ∷ joined (codes "basis") (codes "b.csv") ∷ []; spells = refl; only = (inl refl, (inr (inr (inl refl)), tt)); day = codes "2021-01-01"; alone = refl; day_is = new_year; position_is = (lit≤ tt, refl); workers_are = refl; basis_is = (b_name, refl); measure_is = refl }),
      value_needs,
      enough_commands,
      none_failed,
    ),
  )

-- whatever the second disk, which stays
pub due_beside : (second : Option CalledDisk) (ending : Ending)
    → IsDueEnding (codes "run" ∷ []) given_script (output_of premium_text) (shelf_that_told []) cut_filing (second_between called second second) ending
    → (status_of Done ≡ status_of ending) ⊎ (status_of Done ≡ 9)
due_beside second ending is = due called called cut_disk last_disk second second two_auditors (codes "run" ∷ []) given_script (output_of premium_text) (shelf_that_told []) ⊥ (Unit {0}) Done
    (did second) (λ rose. absurd (omega (arith, rose))) (λ rose. absurd (omega (arith, rose))) ending is

pub due_of_the_run : DueOfTheRun
due_of_the_run = due_beside None
