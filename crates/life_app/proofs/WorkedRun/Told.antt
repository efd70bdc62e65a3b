-- What the laws and the contract conclude holds of small values.
use Rattle.life_app.proofs.Names.{◌≡◌, List, [], ◌∷◌, ◌++◌, refl, inl, inr, lit≤, arith, codes, pos, digits, AllZip, ◌<ℤ◌, ints, All-from_recursion, anniversary_of, day_number, date_of, month_of, days_before_year, days_of_months, Dated, IsPicked, day_text, BelowTable, NoBasis, Bounds, Word, block_text, row_text, total_text, heading_text, bare, joined, Opens, hand_issue, hand_premium, InForce, PaidUp, Terminal, Row, BadBasis, NoMemory, EndsNoBasis, ReadsForValues, IsEnclosingRow, IsUnrun, called, cut_disk, value_lanes, value_script, given_script, output_of, shelf_that_told, table_reserves, run_wording, IsToldText, Pinned, Now, Run}
use Rattle.watcher_set.specs.Evidence.{a_lack}
use Rattle.basis_shelf.specs.Lines.{bad_basis_text}
use Rattle.basis_shelf.specs.declared.fault.BasisWord.TheVariants.{Absent}
use Rattle.valuing_modes.specs.Worked.Valued.{five_endowments, from_2000, from_2020}
use Rattle.valuing_modes.proofs.WorkedValuation.{first_row, second_row, third_row, fourth_row, fifth_row}
use Rattle.command_csv.specs.Worked.{ValueLine}
use Rattle.life_args.proofs.WorkedWords.{new_year}
use Rattle.policy_types.specs.declared.script.Line.TheVariants.{Value}
use Rattle.policy_machine.specs.Book.{book}
use Rattle.policy_value.specs.Rows.{IsInsured}
use Rattle.policy_value.specs.Rows.{IsValuedRow}
use Rattle.life_app.proofs.WorkedRun.Both.{stated_alone}
use Rattle.life_app.specs.WorkedRun.Told.{EnclosedByHand, EndedByHand, ModesByHand, ReasonsByHand, absent_basis, first_endowment, first_value, five_text, two_bases, unstocked_shelf}
use Rattle.life_app.proofs.HeadlineLaws.{each_pair, enclosing}
use Rattle.life_app.proofs.WorkedRun.Promise.{asks_run}
use Rattle.life_app.proofs.WorkedRun.First.{honest_last}
use Rattle.life_app.proofs.WorkedRun.Row.{second_left}

unrun : IsUnrun called Opens cut_disk cut_disk (codes "basis.csv") given_script (output_of (codes "nomemory" ++ 10 ∷ [])) (shelf_that_told []) 9
unrun = record { ending = NoMemory a_lack; exits = refl; says = inl (inl refl); since = λ honest image left. inl left.1 }

pub ended_by_hand : EndedByHand
ended_by_hand = (
  record { front = (hand_premium ∷ [], refl); one = tt; answered = ([], refl) },
  record { before = []; caller = 1; count = 4; after = []; turns = refl; then = refl },
  unrun,
)

no_basis : EndsNoBasis (codes "basis.csv") unstocked_shelf (output_of absent_basis) BadBasis
unfolding digits bad_basis_text
no_basis = (record { name = codes "basis.csv"; place = 0; word = Absent }, (λ files agree. inl (refl, (agree.1, refl))), inl refl)

pub modes_by_hand : ModesByHand
modes_by_hand = (inr (refl, no_basis), inr (refl, no_basis), inr (refl, no_basis), inl refl, (tt, tt, stated_alone))

module _ (line : ValueLine) where
  reads_values : ReadsForValues value_script
  reads_values = record {
    bytes = codes "1,value,2020-01-01,now,64\n";
    gave = record { given = refl; ended = tt; left = tt; end = tt };
    lanes = value_lanes;
    read = (lit≤ tt, line);
    asks = refl;
  }

  pub reasons_by_hand : ReasonsByHand
  unfolding digits bad_basis_text
  reasons_by_hand = (
    tt,
    (refl, reads_values),
    (Run (codes "basis.csv"), asks_run, (codes "basis.csv", (no_basis.0, (refl, reads_values), no_basis.1, no_basis.2))),
    reads_values,
    (pos 18628, (5, 1, (codes "basis.csv", (Terminal, (refl, record { pieces = bare (codes "2021-01-01") ∷ joined (codes "at") (codes "5") ∷ []; spells = refl; only = (inl refl, tt); day = codes "2021-01-01"; alone = refl; day_is = new_year; position_is = (lit≤ tt, refl); workers_are = refl; basis_is = refl; measure_is = refl }), (λ honest. (hand_issue ∷ [], second_left.opened honest_last, lit≤ tt)))))),
    (refl, record { pieces = bare (codes "2021-01-01") ∷ bare (codes "1") ∷ []; spells = refl; only = tt; day = codes "2021-01-01"; alone = refl; day_is = new_year; years_in = (lit≤ tt, lit≤ tt); workers_are = refl; basis_is = refl }),
    (refl, refl, lit≤ tt, (lit≤ tt, lit≤ tt), (lit≤ tt, lit≤ tt), (lit≤ tt, lit≤ tt)),
    λ words. tt,
  )

-- ---- a valuation

rows : List Row
rows =
    (record { id = 7001; status = InForce; t = 1; worth = Bounds 12722 12723 })
    ∷ (record { id = 7002; status = InForce; t = 0; worth = Word BelowTable })
    ∷ (record { id = 7003; status = InForce; t = 0; worth = Word NoBasis })
    ∷ (record { id = 7004; status = InForce; t = 0; worth = Bounds 0 0 })
    ∷ (record { id = 7005; status = PaidUp; t = 1; worth = Bounds 30000 30000 }) ∷ []

each_valued : AllZip (IsValuedRow two_bases (pos 18628) Terminal) (book five_endowments) rows
unfolding rows anniversary_of day_number date_of month_of days_before_year days_of_months
each_valued = (first_row, (second_row, (third_row, (fourth_row, (fifth_row, tt)))))

block : five_text ≡ block_text 0 (pos 18628) 8 Terminal rows
unfolding rows row_text heading_text total_text day_text date_of month_of days_before_year days_of_months digits
block = refl

text : IsToldText run_wording (IsEnclosingRow table_reserves two_bases) 0 (Value (pos 18628) Now 1) (Pinned 8 5) five_endowments ⊥ five_text
text = inr (
  λ never. never,
  (
    rows,
    each_pair (IsValuedRow two_bases (pos 18628) Terminal) (IsEnclosingRow table_reserves two_bases (pos 18628)) (enclosing two_bases (pos 18628)) (book five_endowments) rows each_valued,
    block,
  ),
)

row : IsEnclosingRow table_reserves two_bases (pos 18628) first_endowment first_value
row = enclosing two_bases (pos 18628) first_endowment first_value first_row

pub insured : IsInsured first_endowment (pos 18628)
insured = (inl refl, omega (arith, ints))

pub picked : IsPicked two_bases (pos 18262) 0 from_2000
picked = record {
  before = [];
  after = from_2020 ∷ [];
  split = refl;
  place = refl;
  begun = omega (arith, ints);
  later = All-from_recursion (λ (other : Dated). pos 18262 <ℤ other.from_day) (from_2020 ∷ []) (omega (arith, ints), tt);
}

pub enclosed_by_hand : EnclosedByHand
enclosed_by_hand = (text, row, insured, picked, row.insured insured 0 from_2000 picked)
