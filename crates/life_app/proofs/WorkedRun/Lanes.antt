-- The two lanes are as their cases say.
use Rattle.life_app.proofs.Names.{accepted_of, take, ◌+◌, ◌≡◌, ◌++◌, ℕ, List, [], ◌∷◌, refl, sym, subst, inl, inr, lit≤, lit<, arith, ints, flat_map, pos, digits, IsDistinct, anniversary_of, day_number, date_of, month_of, days_before_year, days_of_months, day_text, Accepted, Faulted, Refused, hand_premium, valid_premium, BelowTable, Now, Entry, InForce, Opens, Row, Terminal, Word, block_text, heading_text, row_text, total_text, posting_text, reports_text, reports_of, Done, DiskFault, IsRunOf, TakenPiece, called, two_auditors, ap}
use Rattle.csv.proofs.OnLiterals.{csv_on_literals}
use Rattle.command_csv.proofs.WorkedScripts.{reads, row_of}
use Rattle.command_csv.specs.declared.row.ClerkLine.{ClerkLine}
use Rattle.lane_runner.specs.AnsweredLines.{AnsweredLine, AreLinesOf}
use Rattle.policy_machine.specs.Merge.{AnswersLine, IsMerge, Placed}
use Rattle.policy_types.specs.declared.refusal.Refusal.TheVariants.{WrongAmount}
use Rattle.policy_types.specs.declared.script.Line.TheVariants.{Post as PostLine, Value}
use Rattle.script_run.specs.Shown.{AreSafeWhenShown}
use Rattle.valuing_modes.proofs.WorkedValuation.{first_row, second_row}
use Rattle.life_app.proofs.HeadlineLaws.{promised}
use Rattle.life_app.specs.WorkedRun.Lanes.{LegalLanes, LeftLanes, PromisedLanes, ReopenedLanes, both_issues, fault_disk, fault_turn, given_up_turn, lanes_answers, lanes_disk, lanes_pin, lanes_script, lanes_text, lanes_turns, late_lanes, late_text, late_turn, left_commands, looked_again, open_disk, other_premium, output_by, paid_turn, refused_turn, rows_turn, short_premium, typed_lanes}
use Rattle.life_app.specs.WorkedRun.Told.{first_value, two_bases}
use Rattle.life_app.proofs.WorkedRun.First.{only_now}
use Rattle.life_app.proofs.WorkedRun.LanesDisk.{faulted, found_opens, front_held, goes_on, honest_fault, lanes_left, late_left, left_bytes, legal, may_open, may_shut, shut_opens, too_late, valid_other_premium, valid_short}
use Rattle.life_app.proofs.WorkedRun.Promise.{one_alone}

entries : List ClerkLine
entries = (record { clerk = 1; line = PostLine short_premium }) ∷ (record { clerk = 2; line = PostLine hand_premium })
    ∷ (record { clerk = 1; line = Value (pos 18628) Now 1 }) ∷ (record { clerk = 2; line = PostLine other_premium }) ∷ []

abbrev placed : ℕ → Entry → Placed
placed n turn = (n, turn)

abbrev valuing : List Placed
valuing = placed 1 lanes_pin ∷ placed 3 rows_turn ∷ placed 5 given_up_turn ∷ []

valued : AnswersLine [] (Value (pos 18628) Now 1) valuing
valued = (refl, (1, refl, (λ wet. refl)))

merge : IsMerge lanes_turns typed_lanes (11 ∷ 12 ∷ []) []
unfolding IsDistinct
merge = record {
  distinct = ((refl, tt), (tt, tt));
  theirs = ((0, lit< tt, refl), ((0, lit< tt, refl), ((1, lit< tt, refl), ((0, lit< tt, refl), ((1, lit< tt, refl), ((0, lit< tt, refl), tt))))));
  answers = (
    (placed 0 refused_turn ∷ [], (valuing, refl, refl, (valuing, ([], refl, valued, refl)))),
    ((placed 2 paid_turn ∷ [], (placed 4 fault_turn ∷ [], refl, refl, (placed 4 fault_turn ∷ [], ([], refl, refl, refl)))), tt),
  );
}

pub legal_lanes : LegalLanes
unfolding entries csv_on_literals digits day_text date_of month_of days_before_year days_of_months
legal_lanes = (
  reads lanes_script entries _ refl (record {
    each = (
      row_of 1 (PostLine short_premium) (lit≤ tt, lit≤ tt) valid_short,
      (
        row_of 2 (PostLine hand_premium) (lit≤ tt, lit≤ tt) valid_premium,
        (
          row_of 1 (Value (pos 18628) Now 1) (lit≤ tt, lit≤ tt) ((omega (arith, ints), omega (arith, ints)), tt, (lit≤ tt, lit≤ tt)),
          (row_of 2 (PostLine other_premium) (lit≤ tt, lit≤ tt) valid_other_premium, tt),
        ),
      ),
    );
    few = lit≤ tt;
  }),
  legal,
  merge,
)

-- ---- the texts

abbrev two_rows : List Row
two_rows = first_value ∷ (record { id = 7002; status = InForce; t = 0; worth = Word BelowTable }) ∷ []

abbrev texts : List (List ℕ)
texts = posting_text 1 short_premium (Refused (WrongAmount 40000)) ∷ block_text 1 (pos 18628) 2 Terminal two_rows
    ∷ posting_text 2 hand_premium (Accepted 3) ∷ posting_text 2 other_premium (Faulted 1) ∷ []

written : flat_map (λ (text : List ℕ). text) texts ++ reports_text (reports_of two_auditors (hand_premium ∷ [])) ≡ lanes_text
unfolding day_text date_of month_of days_before_year days_of_months row_text heading_text total_text digits
written = refl

lines : AreLinesOf lanes_answers lanes_turns typed_lanes (11 ∷ 12 ∷ []) []
lines = record {
  rising = (lit< tt, (lit< tt, (lit< tt, tt)));
  clerks = ((0, lit< tt, refl), ((0, lit< tt, refl), ((1, lit< tt, refl), ((1, lit< tt, refl), tt))));
  turns = (refl, ((refl, (1, refl, (λ wet. refl))), (refl, (refl, tt))));
  each = ((refl, refl), ((refl, refl), tt));
}

-- ---- the run

abbrev lanes_piece : TakenPiece
lanes_piece = record { bytes = lanes_text; since = called.clock fault_disk }

shown : AreSafeWhenShown called Opens fault_disk both_issues lanes_turns lanes_answers texts (lanes_piece ∷ [])
shown later earlier piece split before after line there some reached image left =
    front_held _ image (only_now fault_disk image honest_fault
    (subst (λ (p : TakenPiece). called.left_since fault_disk p.since image) (sym (one_alone lanes_piece piece later earlier split)) left))

ran : IsRunOf called lanes_disk fault_disk typed_lanes two_bases two_auditors (output_by fault_disk lanes_text) DiskFault
unfolding anniversary_of day_number date_of month_of days_before_year days_of_months
ran = record {
  commands = both_issues;
  callers = 11 ∷ 12 ∷ [];
  dry = [];
  history = lanes_turns;
  lines = lanes_answers;
  texts = texts;
  opened = λ honest. found_opens;
  distinct = merge.distinct;
  theirs = merge.theirs;
  legal = legal;
  pins = tt;
  answered = lines;
  told = (refl, (inr ((λ dry. let low = dry.1 in omega (arith, low)), (two_rows, (first_row, (second_row, tt)), refl)), (refl, (refl, tt))));
  shown = λ honest. (lanes_piece ∷ [], refl, shown);
  wrote = (sym written, (hand_premium ∷ [], (other_premium, faulted)), lit≤ tt);
  disk = lanes_left;
}

pub promised_lanes : PromisedLanes
promised_lanes = (
  lines,
  ran,
  promised called lanes_disk fault_disk (output_by fault_disk lanes_text) typed_lanes two_bases two_auditors DiskFault ran,
)

pub left_lanes : LeftLanes
left_lanes = (
  (hand_premium ∷ [], (other_premium, faulted)),
  faulted,
  may_shut,
  shut_opens,
  inl refl,
  may_open,
  inl left_bytes,
  record { held = hand_premium ∷ []; rest = []; more = other_premium ∷ []; front = refl; one = faulted; are = refl },
)

-- ---- the next run

abbrev late_answer : AnsweredLine
late_answer = record { clerk = 2; line = PostLine other_premium; first = (0, late_turn); rest = [] }

late_merge : IsMerge (late_turn ∷ []) late_lanes (12 ∷ []) []
unfolding IsDistinct
late_merge = record { distinct = (tt, tt); theirs = ((0, lit< tt, refl), tt); answers = ((placed 0 late_turn ∷ [], ([], refl, refl, refl)), tt) }

late_written : flat_map (λ (text : List ℕ). text) (posting_text 2 other_premium late_turn.reply ∷ []) ++ [] ≡ late_text
unfolding day_text date_of month_of days_before_year days_of_months digits
late_written = refl

late_ran : IsRunOf called open_disk looked_again late_lanes [] [] (output_by looked_again late_text) Done
late_ran = record {
  commands = left_commands;
  callers = 12 ∷ [];
  dry = [];
  history = late_turn ∷ [];
  lines = late_answer ∷ [];
  texts = posting_text 2 other_premium late_turn.reply ∷ [];
  opened = λ honest. inl left_bytes;
  distinct = late_merge.distinct;
  theirs = late_merge.theirs;
  legal = too_late;
  pins = tt;
  answered = record { rising = tt; clerks = ((0, lit< tt, refl), tt); turns = (refl, tt); each = ((refl, refl), tt) };
  told = (refl, tt);
  shown = λ honest. (
    (record { bytes = late_text; since = called.clock looked_again }) ∷ [],
    refl,
    λ later earlier piece split before after line there some reached image left.
        absurd (some (ap (λ (l : AnsweredLine). accepted_of (take (l.first.0 + 1) (late_turn ∷ [])))
        (sym (one_alone late_answer line before after there)))),
  );
  wrote = (sym late_written, (((refl, λ no. cc), tt), refl));
  disk = late_left;
}

pub reopened_lanes : ReopenedLanes
reopened_lanes = (
  goes_on,
  promised called open_disk looked_again (output_by looked_again late_text) late_lanes [] [] Done late_ran,
)
