-- The generated text reads back as its rows, and these as the generated lanes
use Rattle.trial_load.proofs.Names.{◌≡◌, ℕ, zero, suc, ◌+◌, ◌/◌, ◌%◌, ◌^◌, ◌<◌, ◌≤◌, ◌==◌, ℤ, false, List, [], ◌∷◌, ◌++◌, length, map, refl, ap, sym, ◌∙◌, subst, inl, inr, arith, add-one, append-nil, AllByRecursion, AllZip, flat_map, list_any, cases_lt, ne_eqb, Command, Line, Post, Value, Trim, IsValidPosting, generated_lanes}
use Rattle.std.specs.Prelude.{decimal}
use Rattle.std.specs.Int.Digits.{digits_of}
use Rattle.std.proofs.lemmas.Fmt.{decimal_digit, decimal-digits_of}
use Rattle.std.proofs.lemmas.List.{length-append}
use Rattle.std.proofs.lemmas.List.Folds.{list_any-append}
use Rattle.csv.specs.Machine.{next_record}
use Rattle.csv.specs.Reading.{default_config, records_from, strip_bom}
use Rattle.csv.specs.Writing.{default_writer, fields_text, is_blank, needs_byte, row_text}
use Rattle.csv.specs.declared.parser.State.TheVariants as st
use Rattle.csv.proofs.RoundTrip.{read-write-many}
use Rattle.life_dates.specs.Calendar.{Date, date_of}
use Rattle.life_dates.specs.DayText.{date_text, day_text}
use Rattle.money_core.proofs.CentsTextLemmas.{hundredths_text}
use Rattle.money_core.specs.CentsText.{cents_text}
use Rattle.text_lines.specs.Lines.{behind_commas, line_of}
use Rattle.text_lines.specs.Fields.{entry_fields}
use Rattle.policy_types.specs.Words.{kind_word, plan_word}
use Rattle.policy_types.specs.Valid.{AreYears, IsValid, id_of}
use Rattle.policy_types.specs.declared.command.Command.TheVariants.{Issue, Premium, Alter, Lapse, Reinstate, Claim, Settle, Mature, PaidUp, Upgrade}
use Rattle.policy_types.specs.declared.command.Plan.{Plan}
use Rattle.policy_types.specs.declared.command.Plan.TheVariants.{Term, Whole, Endowment, Limited}
use Rattle.command_csv.specs.declared.row.ClerkLine.{ClerkLine}
use Rattle.command_csv.specs.Reads.{IsScriptLine, Reads, is_valuation, lanes_up_to, lines_of, valuations_in}
use Rattle.command_csv.specs.inside.Words.{IsLineRow, all_lines}
use Rattle.command_csv.specs.Rows.{rows_of}
use Rattle.command_csv.specs.Spelling.{line_fields, row_fields}
use Rattle.command_csv.proofs.Lines.{line_begins}
use Rattle.load_maker.specs.GeneratedRows.{generated_rows}
use Rattle.load_maker.specs.GeneratedScript.{generated_text}
use Rattle.load_maker.specs.inside.Rows.{script_row_text}
use Rattle.load_maker.proofs.Drawing.{IsRowFor, rows_right}

-- no byte of the field calls for quotes
abbrev Plain : List ℕ → Type 0
Plain field = list_any (needs_byte default_writer) field ≡ false

-- nor does one from `-` on, which is after the comma
plain_byte : (b : ℕ) → 45 ≤ b → needs_byte default_writer b ≡ false
plain_byte b high =
    rw (
      ne_eqb b 44 (λ e. omega (arith, high, e)),
      ne_eqb b 34 (λ e. omega (arith, high, e)),
      ne_eqb b 13 (λ e. omega (arith, high, e)),
      ne_eqb b 10 (λ e. omega (arith, high, e)),
    ) refl

plain_more : (b : ℕ) (field : List ℕ) → 45 ≤ b → Plain field → Plain (b ∷ field)
plain_more b field high plain = rw (plain_byte b high, plain) refl

plain_both : (xs ys : List ℕ) → Plain xs → Plain ys → Plain (xs ++ ys)
plain_both xs ys one two = rw (list_any-append (needs_byte default_writer) xs ys, one, two) refl

plain_digits : (digits : List ℕ) → Plain (map (λ d. 48 + d) digits)
plain_digits [] = refl
plain_digits (d ∷ digits) = plain_more (48 + d) (map (λ d. 48 + d) digits) (omega arith) (plain_digits digits)

plain_number : (n : ℕ) → n < 2 ^ 64 → Plain (decimal n)
plain_number zero small = subst Plain (sym (decimal_digit 0 (omega arith))) (plain_more 48 [] (omega arith) refl)
plain_number (suc n) small = subst Plain (sym (decimal-digits_of (suc n) (omega arith) small)) (plain_digits (digits_of 10 (suc n)))

plain_all : (field : List ℕ) → AllByRecursion (λ b. 45 ≤ b) field → Plain field
plain_all [] all = refl
plain_all (b ∷ field) all = plain_more b field all.0 (plain_all field all.1)

plain_day : (day : ℤ) → Plain (day_text day)
unfolding day_text
plain_day day = plain_date (date_of day)
  where
    plain_date : (date : Date) → Plain (date_text date)
    plain_date date = plain_all (date_text date) (
      omega arith,
      (
        omega arith,
        (
          omega arith,
          (
            omega arith,
            (omega arith, (omega arith, (omega arith, (omega arith, (omega arith, (omega arith, tt)))))),
          ),
        ),
      ),
    )

plain_cents : (n : ℕ) → n < 2 ^ 64 → Plain (cents_text n)
plain_cents n small =
    plain_both (decimal (n / 100)) (hundredths_text (n % 100)) (plain_number (n / 100) (omega (arith, small)))
    (plain_all (hundredths_text (n % 100)) (omega arith, (omega arith, (omega arith, tt))))

plain_plan : (plan : Plan) → Plain (plan_word plan)
plain_plan Term = refl
plain_plan Whole = refl
plain_plan Endowment = refl
plain_plan Limited = refl

-- the text of a row is what the default writer writes of its fields
abbrev fields_in : Command → List (List ℕ)
fields_in command = kind_word command ∷ decimal (id_of command) ∷ entry_fields command

written : (fields : List (List ℕ)) → AllByRecursion Plain fields → fields_text default_writer fields ≡ behind_commas fields
unfolding fields_text
written [] plain = refl
written (field ∷ fields) plain = rw (plain.0, written fields plain.1) refl

row_written : (first second : List ℕ) (rest : List (List ℕ)) → Plain first → AllByRecursion Plain (second ∷ rest)
    → row_text default_writer (first ∷ second ∷ rest) ≡ line_of first (second ∷ rest)
unfolding is_blank
row_written first second rest plain others = rw (plain, written (second ∷ rest) others) refl

years_small : (plan : Plan) (age years : ℕ) → AreYears plan age years → years ≤ 131
years_small Whole age years are = omega (arith, are)
years_small Term age years are = (let end = are.1 in omega (arith, end))
years_small Endowment age years are = (let end = are.1 in omega (arith, end))
years_small Limited age years are = (let end = are.1 in omega (arith, end))

plain_amount : (cents : ℕ) → cents ≤ 40000000000 → Plain (cents_text cents)
plain_amount cents fits = plain_cents cents (omega (arith, fits))

plain_entry : (command : Command) → IsValid command → AllByRecursion Plain (entry_fields command)
plain_entry (Issue id day plan age years amount premium) valid =
    let old = valid.age_in in
    let most = valid.amount_in.1 in
    let more = valid.premium_in.1 in (
      plain_day day,
      (
        plain_plan plan,
        (
          plain_number age (omega (arith, old)),
          (
            plain_number years (let few = years_small plan age years valid.years_in in omega (arith, few)),
            (plain_amount amount (omega (arith, most)), (plain_amount premium (omega (arith, more)), tt)),
          ),
        ),
      ),
    )
plain_entry (Premium id day amount) valid = (plain_day day, (plain_amount amount (let most = valid.2.1 in omega (arith, most)), tt))
plain_entry (Alter id day amount premium) valid = (
  plain_day day,
  (plain_amount amount (let most = valid.2.1 in omega (arith, most)), (plain_amount premium (let most = valid.3.1 in omega (arith, most)), tt)),
)
plain_entry (Lapse id day) valid = (plain_day day, tt)
plain_entry (Reinstate id day amount) valid = (plain_day day, (plain_amount amount (let most = valid.2.1 in omega (arith, most)), tt))
plain_entry (Claim id day) valid = (plain_day day, tt)
plain_entry (Settle id day amount) valid = (plain_day day, (plain_amount amount (let most = valid.2.1 in omega (arith, most)), tt))
plain_entry (Mature id day) valid = (plain_day day, tt)
plain_entry (PaidUp id day amount) valid = (plain_day day, (plain_amount amount (let most = valid.2.1 in omega (arith, most)), tt))
plain_entry Upgrade valid = tt

plain_kind : (command : Command) → Plain (kind_word command)
plain_kind (Issue id day plan age years amount premium) = refl
plain_kind (Premium id day amount) = refl
plain_kind (Alter id day amount premium) = refl
plain_kind (Lapse id day) = refl
plain_kind (Reinstate id day amount) = refl
plain_kind (Claim id day) = refl
plain_kind (Settle id day amount) = refl
plain_kind (Mature id day) = refl
plain_kind (PaidUp id day amount) = refl
plain_kind Upgrade = refl

small_id : (command : Command) → IsValid command → id_of command ≤ 4294967295
small_id (Issue id day plan age years amount premium) valid = valid.id_in.1
small_id (Premium id day amount) valid = valid.0.1
small_id (Alter id day amount premium) valid = valid.0.1
small_id (Lapse id day) valid = valid.0.1
small_id (Reinstate id day amount) valid = valid.0.1
small_id (Claim id day) valid = valid.0.1
small_id (Settle id day amount) valid = valid.0.1
small_id (Mature id day) valid = valid.0.1
small_id (PaidUp id day amount) valid = valid.0.1
small_id Upgrade valid = omega arith

plain_fields : (command : Command) → IsValid command → AllByRecursion Plain (fields_in command)
plain_fields command valid = (
  plain_kind command,
  (
    plain_number (id_of command) (let small = small_id command valid in omega (arith, small)),
    plain_entry command valid,
  ),
)

posted_plain : (command : Command) → IsValid command → AllByRecursion Plain (line_fields (Post command))
posted_plain (Issue id day plan age years amount premium) valid = plain_fields (Issue id day plan age years amount premium) valid
posted_plain (Premium id day amount) valid = plain_fields (Premium id day amount) valid
posted_plain (Alter id day amount premium) valid = plain_fields (Alter id day amount premium) valid
posted_plain (Lapse id day) valid = plain_fields (Lapse id day) valid
posted_plain (Reinstate id day amount) valid = plain_fields (Reinstate id day amount) valid
posted_plain (Claim id day) valid = plain_fields (Claim id day) valid
posted_plain (Settle id day amount) valid = plain_fields (Settle id day amount) valid
posted_plain (Mature id day) valid = plain_fields (Mature id day) valid
posted_plain (PaidUp id day amount) valid = plain_fields (PaidUp id day amount) valid
posted_plain Upgrade valid = (refl, tt)

line_plain : (line : Line) → IsValidPosting line → AllByRecursion Plain (line_fields line)
line_plain (Post command) valid = posted_plain command valid
line_plain (Value on at workers) valid = absurd valid
line_plain Trim valid = absurd valid

some_fields : (line : Line) → 1 ≤ length (line_fields line)
some_fields line = omega (arith, ap length (line_begins line))

script_line : (line : Line) → IsValidPosting line → IsScriptLine line
script_line (Post command) valid = valid
script_line (Value on at workers) valid = absurd valid
script_line Trim valid = absurd valid

not_valued : (line : Line) → IsValidPosting line → is_valuation line ≡ false
not_valued (Post command) valid = refl
not_valued (Value on at workers) valid = absurd valid
not_valued Trim valid = absurd valid

-- one more line reads as its fields, and then what its rest reads as
one_more : (first : List ℕ) (fields : List (List ℕ)) (tail : List ℕ) (more : ℕ) (later : List (List (List ℕ)))
    → 1 ≤ length fields → Plain first → AllByRecursion Plain fields → records_from default_config (suc more) st.StartRecord tail ≡ later
    → records_from default_config (suc (suc more)) st.StartRecord (line_of first fields ++ tail) ≡ (first ∷ fields) ∷ later
unfolding records_from next_record
one_more first [] tail more later some plain others rest = absurd (omega (arith, some))
one_more first (second ∷ fields) tail more later some plain others rest =
    rw (sym (row_written first second fields plain others), read-write-many first second fields tail)
    (ap (λ (later : List (List (List ℕ))). (first ∷ second ∷ fields) ∷ later) rest)

-- a text of rows reads as their fields, with as many reads as there are rows, or more
rows_back : (lanes : ℕ) (rows : List ClerkLine) (more : ℕ) → length rows ≤ more → lanes ≤ 8 → AllByRecursion (IsRowFor lanes) rows
    → records_from default_config (suc more) st.StartRecord (flat_map script_row_text rows) ≡ map row_fields rows
unfolding records_from next_record
rows_back lanes [] more enough few right = refl
rows_back lanes (row ∷ rows) zero enough few right = absurd (omega (arith, enough))
rows_back lanes (row ∷ rows) (suc more) enough few right =
    let last = right.0.last in
    one_more (decimal row.clerk) (line_fields row.line) (flat_map script_row_text rows) more (map row_fields rows)
    (some_fields row.line) (plain_number row.clerk (omega (arith, last, few))) (line_plain row.line right.0.valid)
    (rows_back lanes rows more (omega (arith, enough)) few right.1)

-- each row's text is at least a byte long
rows_shorter : (rows : List ClerkLine) → length rows ≤ length (flat_map script_row_text rows)
rows_shorter [] = omega arith
rows_shorter (row ∷ rows) =
    let more = rows_shorter rows in
    let front = decimal row.clerk ++ behind_commas (line_fields row.line) in
    let both = length-append (front ++ 10 ∷ []) (flat_map script_row_text rows) in
    let one = length-append front (10 ∷ []) in
    rw (both, one) (omega (arith, more))

-- a text that begins with a digit has no byte order mark
no_mark : (a : ℕ) (rest : List ℕ) → (a == 0xEF) ≡ false → strip_bom (a ∷ rest) ≡ a ∷ rest
unfolding strip_bom
no_mark a [] plain = refl
no_mark a (b ∷ []) plain = refl
no_mark a (b ∷ c ∷ rest) plain = rw plain refl

no_mark_in : (lanes : ℕ) (rows : List ClerkLine) → lanes ≤ 8 → AllByRecursion (IsRowFor lanes) rows
    → strip_bom (flat_map script_row_text rows) ≡ flat_map script_row_text rows
unfolding strip_bom
no_mark_in lanes [] few right = refl
no_mark_in lanes (row ∷ rows) few right =
    let last = right.0.last in
    rw (decimal_digit row.clerk (omega (arith, last, few)))
    (no_mark (48 + row.clerk) _ (ne_eqb (48 + row.clerk) 0xEF (λ e. omega (arith, last, few, e))))

text_rows : (lanes : ℕ) (rows : List ClerkLine) → lanes ≤ 8 → AllByRecursion (IsRowFor lanes) rows
    → rows_of (flat_map script_row_text rows) ≡ map row_fields rows
text_rows lanes rows few right =
    rw (no_mark_in lanes rows few right, add-one) (rows_back lanes rows (length (flat_map script_row_text rows)) (rows_shorter rows) few right)

-- these are the rows of the lines
line_rows : (lanes : ℕ) (rows : List ClerkLine) → lanes ≤ 8 → AllByRecursion (IsRowFor lanes) rows → AllZip IsLineRow (map row_fields rows) rows
line_rows lanes [] few right = tt
line_rows lanes (row ∷ rows) few right =
    let last = right.0.last in (
      (record { clerk_in = (right.0.first, omega (arith, last, few)); right = script_line row.line right.0.valid }, refl),
      line_rows lanes rows few right.1,
    )

none_valued : (lanes : ℕ) (rows : List ClerkLine) → AllByRecursion (IsRowFor lanes) rows → valuations_in (all_lines rows) ≡ 0
none_valued lanes [] right = refl
none_valued lanes (row ∷ rows) right = rw (not_valued row.line right.0.valid) (none_valued lanes rows right.1)

-- and after the last lane there is none
none_above : (lanes lane : ℕ) (rows : List ClerkLine) → lanes < lane → AllByRecursion (IsRowFor lanes) rows → lines_of lane rows ≡ []
none_above lanes lane [] above right = refl
none_above lanes lane (row ∷ rows) above right =
    let last = right.0.last in
    rw (ne_eqb row.clerk lane (λ e. omega (arith, last, above, e))) (none_above lanes lane rows above right.1)

no_more_lanes : (lanes n : ℕ) (rows : List ClerkLine) → lanes ≤ n → AllByRecursion (IsRowFor lanes) rows → lanes_up_to n rows ≡ lanes_up_to lanes rows
no_more_lanes lanes zero rows most right = (let same : 0 ≡ lanes = omega (arith, most) in ap (λ (k : ℕ). lanes_up_to k rows) same)
no_more_lanes lanes (suc n) rows most right = elim (cases_lt n lanes) [
  | inl last ↦ (let same : suc n ≡ lanes = omega (arith, most, last) in ap (λ (k : ℕ). lanes_up_to k rows) same)
  | inr more ↦ rw (none_above lanes (suc n) rows (omega (arith, more)) right) (append-nil (lanes_up_to n rows) ∙ no_more_lanes lanes n rows more right)
]

pub reads_back : (seed lanes count : ℕ) → 1 ≤ lanes → lanes ≤ 8 → count ≤ 100000
    → Reads (generated_text seed lanes count) (generated_lanes seed lanes count)
unfolding generated_text generated_lanes
reads_back seed lanes count some few small =
    let rows = generated_rows seed lanes count in
    let right = rows_right seed lanes count some small in
    record {
      entries = rows;
      rows = record {
        each = subst (λ (found : List (List (List ℕ))). AllZip IsLineRow found rows) (sym (text_rows lanes rows few right))
            (line_rows lanes rows few right);
        few = (let none = none_valued lanes rows right in omega (arith, none));
      };
      by_clerk = sym (no_more_lanes lanes 8 rows few right);
    }
